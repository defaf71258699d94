pub mod Places
pub mod TakenBack
pub mod Revised
pub mod Points
pub mod Merged
pub mod Multiplied
pub mod Example
