pub mod Assembled
pub mod Carrying
pub mod Few
