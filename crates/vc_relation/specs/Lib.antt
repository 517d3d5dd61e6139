pub mod Layout
pub mod Homes
pub mod Spots
pub mod Relation
pub mod Sample
