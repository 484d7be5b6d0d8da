pub mod logs
pub mod meshes
pub mod reports
pub mod page
pub mod loads
