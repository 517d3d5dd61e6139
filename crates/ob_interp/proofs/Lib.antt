pub mod Follows
pub mod Kept
pub mod Remaining
pub mod Turns
