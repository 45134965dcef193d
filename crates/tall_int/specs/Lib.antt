pub mod Numbers
pub mod Quotients
pub mod Arithmetic
pub mod Twos
pub mod Doubles
pub mod Sums
pub mod WholeView
pub mod Worked
