pub mod Modes
pub mod Arises
