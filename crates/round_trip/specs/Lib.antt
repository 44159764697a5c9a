pub mod Written
pub mod InRange
pub mod WrittenJob
pub mod JobInRange
pub mod Exact
