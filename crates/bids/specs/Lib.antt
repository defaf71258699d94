pub mod Points
pub mod Bids
pub mod Rows
pub mod Entries
pub mod Joining
