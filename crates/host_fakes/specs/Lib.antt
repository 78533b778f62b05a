pub mod Memory
pub mod Null
pub mod Codes
pub mod Script
