pub mod Form
pub mod Arises
