pub mod turns
pub mod sections
pub mod clocks
pub mod causes
pub mod orders
pub mod groups
pub mod plans
