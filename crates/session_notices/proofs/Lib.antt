pub mod Followed
pub mod Heard
pub mod Settled
