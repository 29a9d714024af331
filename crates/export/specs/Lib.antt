pub mod Benches
pub mod Outcomes
pub mod Sessions
pub mod Told
