pub mod Signature
pub mod Places
pub mod Fields
pub mod Built
pub mod Image
pub mod Flips
pub mod RoundTrip
