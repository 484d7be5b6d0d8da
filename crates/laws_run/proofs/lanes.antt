pub mod Items
pub mod Walking
pub mod Whole
