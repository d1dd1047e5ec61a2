pub mod Channels
pub mod Passing
pub mod PixelLaws
pub mod TargetLaws
pub mod Examples
pub mod ChannelCodes
pub mod ChannelDepths
pub mod ChannelLevels
