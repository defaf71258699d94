pub mod Sums
mod Summed
