pub mod CameBack
pub mod Resting
pub mod Trusting
