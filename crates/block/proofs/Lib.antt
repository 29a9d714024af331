pub mod Signed
pub mod Whole
pub mod Answered
pub mod Bounds
pub mod Arises
