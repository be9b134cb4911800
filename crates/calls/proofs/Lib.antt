pub mod FrontLaws
pub mod DispatchLaws
