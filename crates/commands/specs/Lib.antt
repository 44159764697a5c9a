pub mod Commands
pub mod Reading
pub mod Inner
