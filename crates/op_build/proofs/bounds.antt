pub mod ClassTests
pub mod Classes
pub mod Pairs
pub mod Runs
pub mod Frames
