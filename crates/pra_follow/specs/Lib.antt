pub mod Codes
pub mod Follows
pub mod Tidied
