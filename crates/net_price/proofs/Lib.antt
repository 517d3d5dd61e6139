pub mod Raised
pub mod Stepped
pub mod Sums
pub mod Tied
