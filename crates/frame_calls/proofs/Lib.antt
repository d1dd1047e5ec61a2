pub mod Plannable
pub mod Texts
pub mod PlaneRows
