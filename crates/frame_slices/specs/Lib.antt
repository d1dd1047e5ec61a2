pub mod Awaited
pub mod Converting
pub mod FrameSlices
pub mod Gathering
pub mod Generated
pub mod Handing
pub mod Parts
pub mod Workers
