pub mod Alone
pub mod Counts
pub mod Named
pub mod Ordered
pub mod Pairs
pub mod Shifts
pub mod Whole
