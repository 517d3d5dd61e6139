pub mod FirstSpelling
pub mod OpenComments
pub mod FirstPiece
pub mod ScannedSoFar
pub mod OneCause
