pub mod Samples
pub mod Parts
pub mod Counting
pub mod Trends
pub mod Arises
