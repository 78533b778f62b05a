pub mod Diagnostics
pub mod Values
pub mod Shallow
pub mod Reading
pub mod Params
pub mod Documents
pub mod Edits
