pub mod Clearing
pub mod Punctual
pub mod Bare
pub mod Exact
pub mod Through
pub mod Stopped
