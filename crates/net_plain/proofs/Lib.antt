pub mod Costs
pub mod Filled
pub mod Fronts
pub mod LeastRests
pub mod Pairs
pub mod Whole
