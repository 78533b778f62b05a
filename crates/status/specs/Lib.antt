pub mod Drafts
pub mod Facts
pub mod Health
pub mod Same
pub mod Texts
