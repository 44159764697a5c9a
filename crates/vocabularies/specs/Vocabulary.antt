-- Vocabularies as trees: the abstract DTD of source 000, section 6, with document 01's numbers for names. An element is 1 to 63,
-- a content 0 (text) or an element, an attribute 0 to 31. Document 01 calls the formulas of a rule its clauses: all are to be met.
use Rattle.std.specs.Prelude.{ℕ, ◌≡◌, List, [], ◌∷◌, Bool, true, false, cond, ◌||◌, eqb}
use Rattle.std.proofs.Math.Option.{Option, some, none}

-- Section 6, the grammar of Ψ, in its order. The last number of `value` is a set of strings: bit i stands for string i.
pub data Formula : Type 0 where
  conj disj : Formula → Formula → Formula
  neg : Formula → Formula
  truth : Formula
  attr : ℕ → Formula
  content : ℕ → Formula
  order : ℕ → ℕ → Formula
  value : ℕ → ℕ → Formula

pub record Rule : Type 0 where
  pub element : ℕ
  pub attributes : List ℕ
  pub contents : List ℕ
  pub clauses : List Formula

pub record Vocabulary : Type 0 where
  pub rules : List Rule
  pub root : ℕ

unfoldable pub is_in : ℕ → List ℕ → Bool
is_in n [] = false
is_in n (m ∷ ms) = eqb n m || is_in n ms

-- No number stands in the list twice.
unfoldable pub Distinct : List ℕ → Type 0
unfolding is_in
Distinct [] = Unit {0}
Distinct (n ∷ ns) = (is_in n ns ≡ false) × Distinct ns

-- The rule of an element: at most one, since a rule given twice is refused.
unfoldable pub rule_of : List Rule → ℕ → Option Rule
rule_of [] e = none
rule_of (r ∷ rs) e = cond (eqb r.element e) (some r) (rule_of rs e)

abbrev pub is_some : {A : Type 0} → Option A → Bool
is_some none = false
is_some (some a) = true

-- Whether an element has a rule (section 6: whether it is declared).
abbrev pub declared : List Rule → ℕ → Bool
declared rs e = is_some (rule_of rs e)
