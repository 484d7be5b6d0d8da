pub mod Ready
pub mod Homed
pub mod Renewed
