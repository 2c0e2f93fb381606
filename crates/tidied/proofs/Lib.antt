-- Laws of tidying, and the theorems of docs/THEOREMS.md.
pub mod Moves
pub mod Carried
pub mod Foldings
pub mod Sets
pub mod Tables
pub mod Agreeing
pub mod Tidying
pub mod Again
pub mod Longer
pub mod Lent
-- The definitions computed.
pub mod Trials
