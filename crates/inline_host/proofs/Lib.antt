pub mod Answering
pub mod Pieces
pub mod FirstPieces
pub mod Fitting
pub mod Rising
