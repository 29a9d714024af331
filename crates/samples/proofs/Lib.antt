pub mod Samples
pub mod Counted
pub mod Wrap
pub mod Arises
