pub mod Answered
pub mod MapAndTlb
