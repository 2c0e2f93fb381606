pub mod Answers
pub mod FieldLaws
pub mod FieldParts
