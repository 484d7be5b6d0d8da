pub mod Noting
pub mod Starting
pub mod Knowing
pub mod Controlling
pub mod Fresh
