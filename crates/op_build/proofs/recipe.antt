pub mod StepLists
pub mod Typed
pub mod Means
pub mod Frames
