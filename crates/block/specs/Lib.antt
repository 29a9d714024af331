pub mod Octets
pub mod Table22
pub mod Rules
pub mod Accepted
