pub mod Matrix
pub mod Values
pub mod Colour
pub mod Levels
