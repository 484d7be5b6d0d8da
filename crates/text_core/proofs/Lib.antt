pub mod Spelled
pub mod Cuts
pub mod Found
pub mod Ends
pub mod FirstLine
pub mod FirstWord
