pub mod Phases
pub mod Pieces
pub mod Takers
pub mod Answers
