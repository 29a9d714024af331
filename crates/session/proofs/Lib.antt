pub mod Seven
pub mod Turn
pub mod Link
pub mod Going
pub mod Chunks
pub mod Shown
pub mod Engines
pub mod Arises
