pub mod Printed
pub mod TheVerdict
pub mod Inner
