pub mod Grow
pub mod Text
pub mod Runs
