pub mod shape
pub mod decode
pub mod convert
pub mod encode
pub mod bounds
pub mod recipe
