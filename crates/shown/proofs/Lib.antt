pub mod Tellings
pub mod Wholes
