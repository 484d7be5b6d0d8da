pub mod Controlled
pub mod MadeIn
pub mod Followed
pub mod Going
pub mod Homing
