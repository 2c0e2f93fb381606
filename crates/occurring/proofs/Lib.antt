pub mod Insertion
pub mod Keys
pub mod Rows
pub mod Holds
