pub mod SampleIsChecked
pub mod Totals
pub mod TreeTokens
pub mod ReadVariables
pub mod Short
