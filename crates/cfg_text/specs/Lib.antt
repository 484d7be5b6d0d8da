pub mod Holding
pub mod Wiring
pub mod Missing
pub mod Building
pub mod Reading
pub mod Valid
