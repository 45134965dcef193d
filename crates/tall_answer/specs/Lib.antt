pub mod CommandAnswers
pub mod CommandOpenings
