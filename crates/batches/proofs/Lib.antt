pub mod Mapped
pub mod Laws
pub mod Exact
mod Entries
mod Walked
mod Ended
