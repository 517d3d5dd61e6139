pub mod Certified
pub mod Holds
pub mod ListedAgain
pub mod Whole
