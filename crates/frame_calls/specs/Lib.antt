pub mod Conversion
pub mod Names
pub mod Calls
pub mod Planes
pub mod PlaneSteps
