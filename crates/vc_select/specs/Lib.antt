pub mod Targets
pub mod Indexes
pub mod Selects
pub mod Amounts
pub mod Blocks
pub mod Certified
pub mod Sample
