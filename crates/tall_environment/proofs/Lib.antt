mod Walks
pub mod NameLaws
pub mod TableLaws
pub mod EnvironmentLaws
pub mod ArgumentLaws
pub mod ValueLaws
