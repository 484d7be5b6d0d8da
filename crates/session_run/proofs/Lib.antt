mod Causes
pub mod Reacting
mod Linking
mod Hosting
mod Freeing
pub mod First
mod Reporting
pub mod Telling
pub mod Reading
pub mod Counting
pub mod Counted
pub mod Outsides
pub mod Desked
