mod Slides
mod Least
mod Shifts
mod ByKind
mod Keys
mod Forms
mod GoingBack
mod Meets
pub mod Remembering
pub mod Twins
