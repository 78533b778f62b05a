pub mod AtClient
pub mod AtDesk
pub mod AtFiles
