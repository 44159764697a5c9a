-- The contracts of inner functions: nothing here has to be believed.
pub mod Attributes
pub mod Search
pub mod Rules
