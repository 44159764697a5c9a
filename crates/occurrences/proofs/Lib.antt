pub mod Elements
pub mod Outlining
pub mod Tables
