pub mod Keys
