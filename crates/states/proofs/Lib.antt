pub mod Entries
pub mod Taken
pub mod Gathering
pub mod Put
pub mod Same
