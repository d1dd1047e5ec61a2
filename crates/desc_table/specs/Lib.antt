pub mod Format
pub mod Refused
pub mod Layout
pub mod Row
