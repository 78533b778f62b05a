pub mod Again
pub mod Beginning
pub mod Gathering
pub mod Recording
pub mod Replaying
