pub mod Transfers
pub mod Sources
