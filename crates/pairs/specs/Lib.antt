pub mod Index
pub mod Word
pub mod Pairs
pub mod Reading
