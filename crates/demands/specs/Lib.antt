pub mod Runs
pub mod One
pub mod Two
pub mod OrderOne
pub mod OrderThree
pub mod Three
pub mod Joining
