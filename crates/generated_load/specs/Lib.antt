pub mod Text
pub mod Printer
pub mod Places
