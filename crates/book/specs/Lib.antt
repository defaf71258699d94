pub mod Places
pub mod Books
pub mod Refusals
pub mod Step
