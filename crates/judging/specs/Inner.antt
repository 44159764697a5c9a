-- The contracts of inner functions: nothing here has to be believed.
pub mod Judgement
pub mod Promises
