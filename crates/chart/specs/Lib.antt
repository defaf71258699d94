pub mod Published
pub mod Groups
pub mod Lookup
