pub mod ListLaws
pub mod Answered
