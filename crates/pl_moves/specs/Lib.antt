pub mod Assignment
pub mod Crossbar
pub mod Lengths
pub mod Meaning
pub mod Sequence
