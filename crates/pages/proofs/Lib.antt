pub mod Whole
pub mod Laws
pub mod Parts
pub mod Trees
mod Agreement
mod TemplateAgreement
pub mod Steps
mod Walks
pub mod Gathering
pub mod Marks
pub mod Shifts
