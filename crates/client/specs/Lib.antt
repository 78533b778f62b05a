pub mod Answers
pub mod Client
pub mod Codes
pub mod Folds
pub mod Progress
pub mod Steps
pub mod Texts
