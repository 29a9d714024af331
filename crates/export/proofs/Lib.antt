pub mod Marks
pub mod Refused
pub mod Arises
