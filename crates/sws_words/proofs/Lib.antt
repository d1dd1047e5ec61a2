pub mod OptionRows
pub mod Sound
