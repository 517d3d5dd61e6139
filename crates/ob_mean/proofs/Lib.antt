pub mod Equations
pub mod Budgets
pub mod Stores
