pub mod Facts
pub mod LeftOut
pub mod Ways
