pub mod AffineRows
pub mod CarriedNumbers
pub mod ChainFits
pub mod ChainWalks
pub mod SingleRows
pub mod WalkedSteps
