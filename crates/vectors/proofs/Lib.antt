pub mod Starred
pub mod Compared
