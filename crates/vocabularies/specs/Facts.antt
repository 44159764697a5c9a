-- The facts of a clause (document 01, "A job, command by command"; document 02, F-5, for `14`): its distinct attributes in `14`, distinct
-- contents in `15` and `16`, distinct pairs of `16` and distinct (a, m) of `17`, in the order in which they first stand in the formula; the
-- order has no meaning of its own. `16 c d` names the contents c, d and the pair.
use Rattle.std.specs.Prelude.{ℕ, List, [], ◌∷◌, ◌++◌, Bool, false, cond, ◌&&◌, ◌||◌, eqb}
use Rattle.vocabularies.specs.Vocabulary.{Formula, conj, disj, neg, truth, attr, content, order, value}

pub data Fact : Type 0 where
  carried : ℕ → Fact
  present : ℕ → Fact
  ordered : ℕ → ℕ → Fact
  valued : ℕ → ℕ → Fact

abbrev pub same_fact : Fact → Fact → Bool
same_fact (carried a) (carried a') = eqb a a'
same_fact (carried a) (present c') = false
same_fact (carried a) (ordered c' d') = false
same_fact (carried a) (valued a' m') = false
same_fact (present c) (carried a') = false
same_fact (present c) (present c') = eqb c c'
same_fact (present c) (ordered c' d') = false
same_fact (present c) (valued a' m') = false
same_fact (ordered c d) (carried a') = false
same_fact (ordered c d) (present c') = false
same_fact (ordered c d) (ordered c' d') = eqb c c' && eqb d d'
same_fact (ordered c d) (valued a' m') = false
same_fact (valued a m) (carried a') = false
same_fact (valued a m) (present c') = false
same_fact (valued a m) (ordered c' d') = false
same_fact (valued a m) (valued a' m') = eqb a a' && eqb m m'

unfoldable pub is_among : Fact → List Fact → Bool
is_among x [] = false
is_among x (y ∷ ys) = same_fact x y || is_among x ys

-- A fact is added at the end, unless it is there.
unfoldable pub add : Fact → List Fact → List Fact
unfolding is_among
add x xs = cond (is_among x xs) xs (xs ++ (x ∷ []))

-- The facts so far, with those of a formula.
unfoldable pub with_facts : Formula → List Fact → List Fact
unfolding add
with_facts (conj ψ₁ ψ₂) xs = with_facts ψ₂ (with_facts ψ₁ xs)
with_facts (disj ψ₁ ψ₂) xs = with_facts ψ₂ (with_facts ψ₁ xs)
with_facts (neg ψ) xs = with_facts ψ xs
with_facts truth xs = xs
with_facts (attr a) xs = add (carried a) xs
with_facts (content c) xs = add (present c) xs
with_facts (order c d) xs = add (ordered c d) (add (present d) (add (present c) xs))
with_facts (value a m) xs = add (valued a m) xs

abbrev pub facts_of : Formula → List Fact
facts_of ψ = with_facts ψ []
