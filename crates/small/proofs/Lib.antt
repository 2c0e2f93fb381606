-- The list of small schemata and the next one on it: theorems.
pub mod Lists
pub mod Order
pub mod Listed
pub mod NextTable
pub mod Packs
pub mod Trials
