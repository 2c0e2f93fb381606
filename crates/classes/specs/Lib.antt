pub mod Class
pub mod Key
pub mod Agreed
