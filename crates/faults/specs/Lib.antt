pub mod Outcomes
pub mod Faults
pub mod Texts
