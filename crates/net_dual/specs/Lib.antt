pub mod Leasts
pub mod Paths
pub mod Priced
pub mod Small
pub mod Step
pub mod Value
