pub mod BoundSteps
pub mod LimitLaws
