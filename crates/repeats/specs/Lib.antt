pub mod Places
pub mod Repeated
