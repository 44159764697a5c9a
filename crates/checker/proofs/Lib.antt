mod Points
mod Reading
mod Whole
