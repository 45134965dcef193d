pub mod OrderLaws
pub mod KindLaws
pub mod FunctionLaws
pub mod GroupLaws
pub mod ClassLaws
pub mod SumLaws
