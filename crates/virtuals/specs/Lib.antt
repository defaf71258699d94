pub mod Virtuals
