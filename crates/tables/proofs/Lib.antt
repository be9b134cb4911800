pub mod TableLaws
pub mod WantLaws
pub mod LoopLaws
pub mod WfLaws
pub mod WfAgrees
pub mod BootWf
pub mod ViewLaws
pub mod SourceWf
