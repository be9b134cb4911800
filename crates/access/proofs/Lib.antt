pub mod PartLaws
pub mod Answers
pub mod AccessLaws
