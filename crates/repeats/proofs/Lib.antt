pub mod Links
pub mod RepeatedLaws
