pub mod Replays
pub mod Lists
pub mod Isolated
pub mod Example
