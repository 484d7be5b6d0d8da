pub mod Block
pub mod Scan
pub mod Decided
pub mod Scanned
pub mod Stream
pub mod Spoils
