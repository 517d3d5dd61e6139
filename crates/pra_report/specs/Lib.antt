pub mod Texts
pub mod Input
pub mod Parts
pub mod Report
