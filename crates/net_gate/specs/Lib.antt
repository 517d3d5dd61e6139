pub mod Broken
pub mod InUse
