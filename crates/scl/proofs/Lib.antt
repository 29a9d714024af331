pub mod Time
pub mod Cases
pub mod Checks
pub mod Watchdog
pub mod Arises
