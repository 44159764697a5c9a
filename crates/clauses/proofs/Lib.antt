pub mod AttributeFlags
pub mod StringSets
pub mod TrueForms
