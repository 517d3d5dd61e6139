pub mod Sample
pub mod Short
