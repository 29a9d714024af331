pub mod Table40
pub mod Calls
pub mod History
