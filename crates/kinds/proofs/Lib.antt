pub mod ByKind
pub mod Fits
