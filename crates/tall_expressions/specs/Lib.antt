pub mod Names
pub mod Evaluations
pub mod CallLaws
pub mod SenseLaws
