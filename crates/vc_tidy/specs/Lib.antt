pub mod Joined
pub mod KindCounts
pub mod Places
pub mod Steps
pub mod Thinned
pub mod Tidy
pub mod Unused
