pub mod Own
pub mod Begun
