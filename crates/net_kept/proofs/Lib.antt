pub mod JoinedNumbers
pub mod SpreadNumbers
