pub mod Distances
pub mod Pixels
pub mod Sixteens
pub mod Turns
