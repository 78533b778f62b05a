pub mod Giving
pub mod Following
pub mod Pieces
