pub mod Keys
pub mod Polled
pub mod Seated
pub mod Sights
