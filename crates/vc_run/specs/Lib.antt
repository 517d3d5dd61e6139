pub mod Stuck
pub mod Run
pub mod Procs
pub mod Calls
pub mod Stands
pub mod Ending
pub mod Quick
