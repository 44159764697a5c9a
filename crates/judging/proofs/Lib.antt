pub mod Booleans
pub mod Clauses
pub mod Evaluation
pub mod Rules
pub mod AttributeLaws
pub mod WordLaws
pub mod ItemLaws
pub mod Shapes
