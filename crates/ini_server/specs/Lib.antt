pub mod Ini
