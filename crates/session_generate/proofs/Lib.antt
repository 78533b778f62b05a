pub mod Counting
pub mod Walking
pub mod Wholes
