pub mod Words
pub mod Names
pub mod Said
pub mod There
