-- Laws of the definitions.
pub mod Tables
pub mod Places
pub mod WideTrees
pub mod PlainForms
pub mod PlainRows
pub mod Images
pub mod ImageTrees
pub mod PlainFormed
pub mod Conversion
pub mod Converted
pub mod ConvertFits
pub mod Spared
pub mod PlainKinds
-- The definitions computed.
pub mod Trials
