pub mod CallLists
pub mod SummedCalls
pub mod Totals
pub mod Performed
pub mod FoundCalls
pub mod WrittenCalls
pub mod RanSteps
