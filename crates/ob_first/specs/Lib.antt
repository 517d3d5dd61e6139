pub mod Faults
pub mod InExpressions
pub mod InStatements
pub mod InTypes
pub mod InDeclarations
pub mod Breaks
pub mod Sample
