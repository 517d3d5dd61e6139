pub mod Loops
pub mod OneInstruction
pub mod Roles
pub mod Pushes
pub mod Together
