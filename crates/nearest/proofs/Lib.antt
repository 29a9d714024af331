pub mod Whole
pub mod Closest
pub mod Arises
