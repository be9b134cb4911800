pub mod TurnLaws
pub mod Fronts
pub mod Walked
pub mod Along
pub mod Going
