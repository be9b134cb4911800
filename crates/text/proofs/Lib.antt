pub mod TextLaws
pub mod Cuts
pub mod AnswerLaws
pub mod LineLaws
