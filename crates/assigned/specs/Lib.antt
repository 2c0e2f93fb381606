pub mod Words
pub mod Assignments
