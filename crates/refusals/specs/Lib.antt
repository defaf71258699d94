pub mod Refusals
pub mod Figures
pub mod Answers
