pub mod DrawnLaws
pub mod Rests
