pub mod PartnerLaws
pub mod ReadyLaws
pub mod StepLaws
