pub mod Compiled
pub mod CompiledProcs
pub mod Given
pub mod Leaving
pub mod Mechanism
pub mod Tidied
pub mod Visits
