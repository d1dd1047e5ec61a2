pub mod Parts
pub mod Rows
pub mod ColourLaws
pub mod ColourRows
pub mod Coefficients
pub mod LevelLaws
pub mod SameMatrices
