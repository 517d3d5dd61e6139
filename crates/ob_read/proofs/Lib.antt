pub mod Rungs
mod Fronts
mod Causes
pub mod Reading
mod EachIsRead
mod Exactly
mod FirstRule
