pub mod Pairs
pub mod Values
pub mod Target
pub mod Laws
pub mod Examples
pub mod Channels
