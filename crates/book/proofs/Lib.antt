pub mod Places
mod Passed
mod Sums
mod Codes
mod Walked
mod Distinct
pub mod Batched
pub mod Effect
pub mod Verdicts
pub mod Kept
mod Closed
pub mod Written
mod Shown
mod Applied
