pub mod Clients
pub mod Lines
pub mod Readable
pub mod Sizes
pub mod Streams
pub mod Writable
