pub mod Checking
pub mod Fields
pub mod Judging
pub mod Pending
pub mod Rules
