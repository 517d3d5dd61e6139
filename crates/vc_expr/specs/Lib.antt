pub mod Operators
pub mod Division
pub mod Branches
pub mod Choices
pub mod Rules
pub mod Readable
pub mod Counts
