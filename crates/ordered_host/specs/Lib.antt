pub mod InOrder
pub mod Codes
