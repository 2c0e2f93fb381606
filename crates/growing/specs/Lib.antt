pub mod Growing
pub mod Complete
pub mod Enquiry
pub mod Lent
