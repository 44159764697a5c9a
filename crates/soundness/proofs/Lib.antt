pub mod Described
pub mod Statements
pub mod Shows
pub mod Run
pub mod Ranges
pub mod Frames
pub mod Guarantee
