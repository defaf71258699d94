pub mod Batches
pub mod Closing
