pub mod Path
pub mod Run
