pub mod Greedy
pub mod Laid
pub mod Order
pub mod Parts
pub mod Settled
