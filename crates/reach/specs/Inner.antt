-- The contracts of inner functions: nothing here has to be believed.
pub mod Closures
pub mod Outlines
pub mod PlainlyWrong
pub mod Promises
pub mod Walking
