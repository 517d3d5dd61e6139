pub mod Costs
pub mod LaidSoFar
pub mod Room
pub mod SettleState
pub mod SettleSums
pub mod Staying
