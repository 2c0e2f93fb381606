pub mod Searches
pub mod Pairs
pub mod Answers
