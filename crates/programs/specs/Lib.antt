pub mod Program
pub mod ProgramReading
pub mod Runs
pub mod Unframed
pub mod Inner
