pub mod Digits
pub mod FirstPart
pub mod ReadSoFar
pub mod Totals
