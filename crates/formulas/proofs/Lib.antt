pub mod Given
pub mod StageLaws
pub mod Worked
