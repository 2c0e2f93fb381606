pub mod Runs
pub mod Fields
pub mod Steps
pub mod Lines
pub mod Headings
