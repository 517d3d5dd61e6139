pub mod Excesses
pub mod Marks
pub mod Readings
