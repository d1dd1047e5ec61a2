pub mod ElementType
pub mod Recipe
pub mod Codes
pub mod Meaning
pub mod SideClasses
pub mod LevelSizes
pub mod Steps
pub mod Frames
