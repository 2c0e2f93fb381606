pub mod Lent
pub mod NodeColumn
pub mod Parents
pub mod Sets
pub mod Work
