mod Keys
mod Lent
pub mod OneAnswer
mod Pendings
mod Procedures
mod Scopes
mod Worths
