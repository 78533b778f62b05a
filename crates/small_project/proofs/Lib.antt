pub mod Firsts
pub mod Listed
