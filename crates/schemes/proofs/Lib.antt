pub mod Numbers
pub mod FactPlaces
pub mod Placing
pub mod Tabling
pub mod Joining
pub mod Products
