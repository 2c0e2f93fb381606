pub mod Tidied
pub mod Tidy
