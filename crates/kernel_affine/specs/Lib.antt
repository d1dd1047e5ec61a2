pub mod Affine
pub mod Chain
