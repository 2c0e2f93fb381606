pub mod Here
pub mod Numerals
pub mod Headings
