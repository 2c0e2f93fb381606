pub mod Shown
pub mod Find
pub mod Keys
pub mod Number
