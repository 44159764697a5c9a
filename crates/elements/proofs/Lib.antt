pub mod AttributeLists
pub mod Searches
pub mod Templates
pub mod Rules
