-- What the theorems speak of: nothing here has to be believed.
pub mod Order
pub mod Holding
pub mod Proposed
