pub mod Judgements
pub mod Faults
