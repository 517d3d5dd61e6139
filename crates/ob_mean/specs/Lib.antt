pub mod Store
pub mod Designators
pub mod Expressions
pub mod Statements
pub mod Program
