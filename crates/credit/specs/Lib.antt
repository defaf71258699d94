pub mod Account
pub mod Credit
pub mod Sums
pub mod NoOverflow
