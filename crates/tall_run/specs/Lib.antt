pub mod Dues
pub mod Shown
pub mod Shelves
pub mod Scripts
pub mod Answered
pub mod Promises
