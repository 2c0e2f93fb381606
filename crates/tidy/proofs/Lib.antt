pub mod Fronts
mod Inserts
mod Places
mod Nodes
mod Fitting
mod Answers
