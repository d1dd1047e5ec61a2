pub mod Runs
pub mod Packed
pub mod Slots
pub mod Elements
