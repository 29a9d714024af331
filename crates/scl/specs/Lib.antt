pub mod Time
pub mod Counts
pub mod Happenings
pub mod Delayed
pub mod Readings
