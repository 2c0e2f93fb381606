pub mod Edits
pub mod EditPacks
