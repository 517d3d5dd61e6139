pub mod Calls
pub mod Causes
pub mod Contents
pub mod Entries
pub mod Host
pub mod Memory
pub mod Quiet
