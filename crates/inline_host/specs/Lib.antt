pub mod Calls
pub mod Codes
pub mod Coming
pub mod Framed
pub mod Inline
pub mod Orders
pub mod Results
