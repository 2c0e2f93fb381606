pub mod WideFormula
pub mod WideMeaning
pub mod Plain
pub mod Convert
pub mod Converted
