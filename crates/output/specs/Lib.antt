pub mod Headed
pub mod NodeTexts
