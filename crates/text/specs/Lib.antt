pub mod Text
pub mod Answers
pub mod Line
pub mod Walks
