pub mod MarkLaws
pub mod PlanLaws
