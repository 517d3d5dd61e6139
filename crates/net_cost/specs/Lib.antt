pub mod Models
pub mod Weights
