-- The fact patterns of a clause (document 01, "An exact check needs, clause by clause, for each template the set of fact patterns
-- its contents can have"). For a list of k facts a pattern is a number below 2 ^ k: bit i, counted from the lowest, is the flag of
-- fact i. An attribute is flagged if it is carried, a content if it is present, a pair if its order is broken, a set of strings if some
-- attribute of that name has a string outside it. So flags only grow when words or attributes are joined, and an absent attribute leaves none
-- (document 02, F-5): its `14` is false, and its `17` is not broken.
use Rattle.std.specs.Prelude.{ℕ, ◌+◌, ◌*◌, ◌/◌, ◌%◌, List, [], ◌∷◌, Bool, false, cond, not, ◌&&◌, ◌||◌, eqb}
use Rattle.vocabularies.specs.Vocabulary.{is_in}
use Rattle.vocabularies.specs.Facts.{Fact, carried, present, ordered, valued, same_fact}
use Rattle.pages.specs.Items.{Attribute}
use Rattle.pages.specs.RightPages.{names}
use Rattle.judging.specs.Inner.Judgement.{Atoms, precedes, has_string}

-- Some attribute a has a value other than the strings of the set m.
unfoldable pub breaks_value : List Attribute → ℕ → ℕ → Bool
breaks_value [] a m = false
breaks_value (x ∷ δ) a m = (eqb x.name a && not (has_string x.value m)) || breaks_value δ a m

-- The flag of a fact for an element with these attributes and this word of contents.
abbrev pub flagged : List Attribute → List ℕ → Fact → Bool
flagged δ w (carried a) = is_in a (names δ)
flagged δ w (present c) = is_in c w
flagged δ w (ordered c d) = precedes w d c
flagged δ w (valued a m) = breaks_value δ a m

-- The number whose bits are the flags of the facts.
unfoldable pub numbered : List Fact → (Fact → Bool) → ℕ
numbered [] flag = 0
numbered (f ∷ fs) flag = cond (flag f) 1 0 + 2 * numbered fs flag

unfoldable pub pattern_of : List Fact → List Attribute → List ℕ → ℕ
unfolding numbered
pattern_of fs δ w = numbered fs (flagged δ w)

-- The flag that a pattern has for a fact; none for a fact that is not of the list.
unfoldable pub flag_in : List Fact → ℕ → Fact → Bool
flag_in [] x f = false
flag_in (g ∷ fs) x f = cond (same_fact f g) (eqb (x % 2) 1) (flag_in fs (x / 2) f)

-- The flag of a fact in two words, one after the other, from their patterns: `16 c d` is broken in the one, or in the other, or by a
-- d of the first and a c of the second. It names the contents c and d too, so both have flags.
abbrev pub joined_flag : List Fact → ℕ → ℕ → Fact → Bool
joined_flag fs x y (carried a) = flag_in fs x (carried a) || flag_in fs y (carried a)
joined_flag fs x y (present c) = flag_in fs x (present c) || flag_in fs y (present c)
joined_flag fs x y (ordered c d) =
    flag_in fs x (ordered c d) || flag_in fs y (ordered c d) || (flag_in fs x (present d) && flag_in fs y (present c))
joined_flag fs x y (valued a m) = flag_in fs x (valued a m) || flag_in fs y (valued a m)

unfoldable pub join : List Fact → ℕ → ℕ → ℕ
unfolding numbered flag_in
join fs x y = numbered fs (joined_flag fs x y)

-- The truth of a clause's atoms, from its facts and a pattern.
unfoldable pub atoms_by : List Fact → ℕ → Atoms
unfolding flag_in
atoms_by fs x = record {
  attr = λ a. flag_in fs x (carried a);
  content = λ c. flag_in fs x (present c);
  order = λ c d. not (flag_in fs x (ordered c d));
  value = λ a m. not (flag_in fs x (valued a m));
}
