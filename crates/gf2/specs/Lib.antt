pub mod Polynomial
pub mod Register
pub mod Bits
pub mod Generators
