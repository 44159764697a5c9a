pub mod Members
pub mod Laws
pub mod Flags
pub mod Shifting
pub mod Tables
pub mod Stepping
pub mod Imaging
