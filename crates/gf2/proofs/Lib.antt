pub mod Sum
pub mod Product
pub mod Detect
pub mod Table
pub mod Bits
pub mod Generators
pub mod Arises
