pub mod Inverse
pub mod FirstPath
