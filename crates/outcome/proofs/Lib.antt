pub mod Digits
pub mod Afters
