pub mod Strings
pub mod Inner
