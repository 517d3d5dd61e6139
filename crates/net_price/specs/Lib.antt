pub mod Raised
pub mod Tied
