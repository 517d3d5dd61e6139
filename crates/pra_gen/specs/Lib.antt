pub mod Draws
pub mod Module
