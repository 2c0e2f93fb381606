pub mod RowPlaces
pub mod TablePlaces
pub mod Judging
pub mod Answers
