-- The laws of this crate that others cite.
pub use Rattle.vocabularies.proofs.Parts.{agrees_whole, agrees_refused, agrees_with_whole, agrees_with_refused, last_agrees, last_agrees_with, last_whole, and_then_same}
pub use Rattle.vocabularies.proofs.Parts.{plenty, is_plenty, Finished, last_finishes, and_then_finishes, when_finishes, command_turns, command_falls}
pub use Rattle.vocabularies.proofs.Formulas.{formula_ends, formula_finishes, formula_whole, formula_moved}
pub use Rattle.vocabularies.proofs.Walks.{told, onward, two_walk, one_walk, leaf_walk, no_walk}
pub use Rattle.vocabularies.proofs.FactLists.{compared, count_is, kept}
pub use Rattle.vocabularies.proofs.Clauses.{Clausal, no_more, one_more, clauses_formed, clauses_ends, clauses_fuel, clauses_finishes}
pub use Rattle.vocabularies.proofs.Rules.{rule_found, rule_element, rule_fuel, rule_finishes}
pub use Rattle.vocabularies.proofs.Vocabularies.{rules_ends, rules_finishes, vocabulary_ends, vocabulary_finishes}
