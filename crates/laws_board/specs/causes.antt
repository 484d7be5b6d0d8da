pub mod Causes
pub mod Again
pub mod Short
