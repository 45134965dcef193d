pub mod Spelling
pub mod SpellingRows
pub mod Grammar
pub mod Values
pub mod ValueRows
pub mod Sizes
pub mod View
