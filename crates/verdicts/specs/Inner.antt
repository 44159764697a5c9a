-- The contracts of inner functions: nothing here has to be believed.
pub mod Acceptance
pub mod Spelled
