pub mod Parts
pub mod Actions
pub mod Calls
pub mod Source
