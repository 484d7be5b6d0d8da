pub mod Said
pub mod Views
pub mod Sections
pub mod Table
pub mod Values
pub mod Items
pub mod Faults
