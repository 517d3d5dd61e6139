pub mod Assembly
pub mod Rules
