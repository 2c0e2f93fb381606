-- Laws of the definitions.
pub mod Numbers
pub mod Assignments
pub mod Tables
pub mod Refusals
pub mod Packed
-- What 02 says of them.
pub mod Found
-- The definitions computed.
pub mod Trials
