mod NodeLaws
pub mod Grown
pub mod Operands
mod Variables
pub mod RowLaws
mod IndexLaws
mod FormLaws
mod GroupLaws
pub mod TurnLaws
