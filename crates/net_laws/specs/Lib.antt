pub mod Built
pub mod Homes
pub mod Ordered
