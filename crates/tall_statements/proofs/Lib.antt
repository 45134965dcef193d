pub mod TextLaws
mod Naming
mod EndLaws
mod PropertyLaws
mod RunLaws
