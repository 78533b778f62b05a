pub mod Fitting
pub mod Writable
