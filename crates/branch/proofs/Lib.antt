pub mod Ascending
pub mod NodeColumns
pub mod ParentLaws
pub mod Parts
pub mod HeldLaws
