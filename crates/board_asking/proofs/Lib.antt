pub mod Configured
pub mod InTurns
