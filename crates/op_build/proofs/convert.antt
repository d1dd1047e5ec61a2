pub mod LevelSizes
pub mod Steps
pub mod Clamp
pub mod Coded
