pub mod Evaluated
pub mod PackedRgb
pub mod Slices
pub mod Rows
pub mod Planes
pub mod Jobs
