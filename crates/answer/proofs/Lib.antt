pub mod Exact
pub mod Arises
pub mod Values
pub mod InTurn
