-- The contracts of inner functions: nothing here has to be believed.
pub mod Patterns
pub mod Morphisms
pub mod Given
pub mod Rounds
pub mod Reached
pub mod Exactness
pub mod Elements
pub mod Shows
pub mod LowestWrong
