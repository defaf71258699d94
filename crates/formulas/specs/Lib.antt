pub mod Stages
pub mod Entries
pub mod Worked
