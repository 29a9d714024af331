pub mod Samples
pub mod Counted
pub mod Trends
