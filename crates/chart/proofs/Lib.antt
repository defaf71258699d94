pub mod Ranges
pub mod Seasons
pub mod Periods
pub mod Parted
pub mod Eighteen
pub mod ThirtyThree
pub mod Places
pub mod Answers
