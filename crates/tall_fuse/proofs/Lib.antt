pub mod LastParts
