pub mod Typing
pub mod TypedStatements
pub mod TypedModules
pub mod TypedSample
pub mod Nodes
pub mod Fitting
