pub mod Steps
pub mod Points
pub mod Whole
pub mod Laws
