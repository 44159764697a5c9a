pub mod Elements
pub mod Law
