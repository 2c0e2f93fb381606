pub mod Rows
pub mod Nodes
pub mod Texts
pub mod Awaiting
pub mod OneLine
