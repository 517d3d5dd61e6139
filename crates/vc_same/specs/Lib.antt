pub mod Pure
pub mod Reduction
pub mod Renaming
pub mod SameRuns
