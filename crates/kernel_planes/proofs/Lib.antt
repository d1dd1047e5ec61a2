pub mod Blocks
pub mod Palettes
pub mod Parts
pub mod PlaneRows
pub mod Positions
pub mod RowFrames
