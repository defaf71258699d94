mod Halves
pub mod Keeping
pub mod Parts
pub mod Rows
