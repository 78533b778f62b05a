pub mod Errors
pub mod Responses
