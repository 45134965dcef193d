pub mod PieceLaws
pub mod PhaseLaws
pub mod WindowLaws
pub mod WalkLaws
