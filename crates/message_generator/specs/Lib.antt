pub mod Draws
pub mod Drafts
pub mod Messages
pub mod Stream
