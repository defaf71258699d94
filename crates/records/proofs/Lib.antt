pub mod Clauses
pub mod Places
pub mod Bounds
pub mod Made
