pub mod PlainEnds
pub mod Slots
pub mod Tickets
pub mod Writable
