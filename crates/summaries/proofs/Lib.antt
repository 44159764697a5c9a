pub mod Held
pub mod Here
pub mod Reading
mod Heads
pub mod Steps
pub mod Frames
pub mod Laws
