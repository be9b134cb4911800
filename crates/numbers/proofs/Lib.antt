pub mod Bools
pub mod SearchLaws
pub mod RulesLaws
pub mod RefusalLaws
pub mod AddressLaws
pub mod EntryLaws
pub mod FrameLaws
pub mod FrameCases
