pub mod Block
pub mod Orders
pub mod Planes
