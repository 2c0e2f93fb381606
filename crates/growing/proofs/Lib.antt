-- Laws of a tableau that grows, and the theorems of docs/THEOREMS.md.
pub mod Local
pub mod States
pub mod Held
pub mod Grown
pub mod Enquiries
-- The definitions computed.
pub mod Trials
