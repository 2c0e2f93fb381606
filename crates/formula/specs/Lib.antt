pub mod Cells
pub mod Column
pub mod Facts
pub mod Kept
pub mod Rows
pub mod Spread
