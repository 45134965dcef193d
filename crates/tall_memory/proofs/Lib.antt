pub mod ColumnLemmas
pub mod TableLemmas
pub mod FormLemmas
pub mod NamedLemmas
