pub mod First
pub mod Printed
