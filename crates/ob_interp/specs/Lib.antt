pub mod Kept
pub mod Running
pub mod Told
pub mod Units
