pub mod Tallied
pub mod Samples
