-- Laws of joining, and the theorems of docs/THEOREMS.md.
pub mod Lists
pub mod Rows
pub mod Blocks
pub mod Sets
pub mod Nodes
pub mod Joining
pub mod Accepted
pub mod TurnedAway
pub mod Lent
-- The definitions computed.
pub mod Trials
