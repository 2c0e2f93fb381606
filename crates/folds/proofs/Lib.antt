pub mod Numbers
mod Parts
mod Earlier
pub mod Fronts
mod Steps
