pub mod BoundLaws
pub mod WorkLaws
