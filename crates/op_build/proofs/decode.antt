pub mod Runs
pub mod Plain
pub mod Palette
pub mod Codes
pub mod Typed
