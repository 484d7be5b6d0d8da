pub mod Table
pub mod Dictionary
pub mod Kept
pub mod Format
pub mod Reading
pub mod Own
