pub mod CommandLine
pub mod Words
pub mod Texts
pub mod Command
pub mod Written
