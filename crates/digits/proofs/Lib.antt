pub mod Overs
pub mod Decimals
