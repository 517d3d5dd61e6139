pub mod Opening
pub mod Finished
pub mod Selected
