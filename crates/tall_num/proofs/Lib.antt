pub mod Digits
pub mod Plain
pub mod Sizes
pub mod Decimals
pub mod Derived
pub mod Sound
