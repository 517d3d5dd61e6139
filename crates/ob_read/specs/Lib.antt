pub mod Ladder
pub mod Source
pub mod FirstRule
