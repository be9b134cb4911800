pub mod Table
pub mod Steps
pub mod Wants
pub mod State
pub mod Lent
pub mod Wf
pub mod Views
