pub mod Demands
pub mod Marks
pub mod Security
pub mod Faults
