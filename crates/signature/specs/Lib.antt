pub mod Signature
pub mod Lookup
pub mod Width
pub mod Engines
