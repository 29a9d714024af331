pub mod Table38
pub mod Calls
pub mod History
pub mod Regular
