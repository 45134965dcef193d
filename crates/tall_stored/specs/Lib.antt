pub mod StoredColumns
pub mod StoredRows
