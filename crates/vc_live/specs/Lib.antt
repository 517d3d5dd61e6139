pub mod Equations
pub mod Least
pub mod Rows
pub mod Sets
pub mod Sized
pub mod Spreading
