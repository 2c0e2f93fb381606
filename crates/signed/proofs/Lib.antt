pub mod Signs
pub mod Tables
pub mod Makes
pub mod Ranks
