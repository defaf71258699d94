pub mod Closings
pub mod Listing
