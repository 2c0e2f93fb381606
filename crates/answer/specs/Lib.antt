pub mod Near
