pub mod Front
pub mod Going
pub mod Near
pub mod Steps
