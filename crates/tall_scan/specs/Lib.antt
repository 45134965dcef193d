pub mod Rows
pub mod Cutting
pub mod Scanning
pub mod Laws
pub mod Words
pub mod Fronts
pub mod Finding
pub mod Texts
