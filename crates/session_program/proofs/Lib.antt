pub mod Reading
pub mod Taking
