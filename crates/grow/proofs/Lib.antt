pub mod Calls
pub mod Counted
pub mod Judged
pub mod Laying
pub mod Lists
pub mod Packs
pub mod Same
