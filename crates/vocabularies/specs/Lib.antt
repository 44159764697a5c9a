pub mod Vocabulary
pub mod Facts
pub mod VocabularyReading
pub mod Inner
