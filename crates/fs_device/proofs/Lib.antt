pub mod Rows
pub mod Faults
pub mod Watchdog
pub mod Release
pub mod Cycles
pub mod Reports
pub mod Delayed
pub mod Arises
