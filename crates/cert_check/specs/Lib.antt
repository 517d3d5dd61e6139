pub mod Listed
pub mod Pass
pub mod Reasons
pub mod Tolls
