pub mod FromRows
pub mod FromTexts
pub mod Kept
