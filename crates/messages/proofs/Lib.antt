pub mod Tables
pub mod Stages
pub mod Passed
pub mod Formulas
pub mod Fits
