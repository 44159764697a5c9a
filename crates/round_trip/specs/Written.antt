-- Vocabularies and pages written out as bytes (document 01, "A job, command by command", Vocabulary; "Verdicts", Judge a page). What is
-- written of items stands with them. The laws of proofs/ say that reading is exact: what is in range and not too long is read back as
-- itself, and bytes that are read are those of what was read, which is in range. A definition of reading that wrongly refused, altered or
-- let through anything would break them; which refusal the others get they do not say.
use Rattle.std.specs.Prelude.{ℕ, zero, suc, ◌/◌, ◌%◌, ◌^◌, List, [], ◌∷◌, ◌++◌}
use Rattle.vocabularies.specs.Vocabulary.{Formula, conj, disj, neg, truth, attr, content, order, value, Rule, Vocabulary}
pub use Rattle.pages.specs.Written.{written_value}
unfoldable pub use Rattle.pages.specs.Written.{written_attributes, written_items, written_item, written_page, marked, marked_item}

-- The n bytes of a number below 256 ^ n, highest first.
unfoldable pub highest_first : ℕ → ℕ → List ℕ
highest_first zero m = []
highest_first (suc n) m = m / 256 ^ n ∷ highest_first n (m % 256 ^ n)

-- A formula in prefix order.
unfoldable pub written_formula : Formula → List ℕ
unfolding highest_first
written_formula (conj ψ₁ ψ₂) = 0x10 ∷ written_formula ψ₁ ++ written_formula ψ₂
written_formula (disj ψ₁ ψ₂) = 0x11 ∷ written_formula ψ₁ ++ written_formula ψ₂
written_formula (neg ψ) = 0x12 ∷ written_formula ψ
written_formula truth = 0x13 ∷ []
written_formula (attr a) = 0x14 ∷ a ∷ []
written_formula (content c) = 0x15 ∷ c ∷ []
written_formula (order c d) = 0x16 ∷ c ∷ d ∷ []
written_formula (value a m) = 0x17 ∷ a ∷ highest_first 8 m

-- Each number of a list behind its own command.
unfoldable pub written_numbers : ℕ → List ℕ → List ℕ
written_numbers c [] = []
written_numbers c (n ∷ ns) = c ∷ n ∷ written_numbers c ns

-- `04` and a formula for each.
unfoldable pub written_clauses : List Formula → List ℕ
unfolding written_formula
written_clauses [] = []
written_clauses (ψ ∷ ψs) = 0x04 ∷ written_formula ψ ++ written_clauses ψs

unfoldable pub written_rule : Rule → List ℕ
unfolding written_numbers written_clauses
written_rule r = 0x01 ∷ r.element ∷ written_numbers 0x02 r.attributes ++ written_numbers 0x03 r.contents ++ written_clauses r.clauses

unfoldable pub written_rules : List Rule → List ℕ
unfolding written_rule
written_rules [] = []
written_rules (r ∷ rs) = written_rule r ++ written_rules rs

-- The rules in their order, then the root.
unfoldable pub written_vocabulary : Vocabulary → List ℕ
unfolding written_rules
written_vocabulary D = written_rules D.rules ++ 0x05 ∷ D.root ∷ []
