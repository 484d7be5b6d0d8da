pub mod Near
pub mod Made
pub mod Timely
pub mod Told
pub mod Further
