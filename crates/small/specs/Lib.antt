pub mod Small
pub mod Calls
pub mod Fits
