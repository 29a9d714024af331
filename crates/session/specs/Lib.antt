pub mod Text
pub mod Run
pub mod Chunks
