pub mod Agreement
pub mod Ranges
mod Statements
pub mod Decoding
mod Here
mod Naming
mod Reading
mod Whole
pub mod Replacing
pub mod AtPoints
pub mod Frames
pub mod Frameless
pub mod Laws
