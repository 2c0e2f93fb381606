pub mod DigitLaws
pub mod Blocks
pub mod KeyLaws
pub mod Ranges
pub mod Searches
