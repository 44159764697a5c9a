pub mod Statements
pub mod Lowest
pub mod Deciding
pub mod Elements
pub mod Graphs
