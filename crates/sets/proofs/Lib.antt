pub mod SetLaws
pub mod SetRefusals
pub mod Faults
