-- The patterns of a clause. A pattern's flags are those of the attributes and the word; patterns are joined as the words and the
-- attributes are; and the truth of the clause follows from the pattern, for attributes none of which stands twice.
use Prim.Native.Nat.{ℕ, suc, ◌+◌, ◌*◌, ◌/◌, ◌%◌, ◌^◌, ◌<◌}
use native.Mathlib.Omega.{arith}
use mathlib.Core.Path.{◌≡◌, refl, sym, ap, ap₂, subst, ◌∙◌}
use mathlib.Core.List.{List, [], ◌∷◌, ◌++◌, append-nil}
use mathlib.Core.Bool.{Bool, true, false, cond, not, ◌&&◌, ◌||◌}
use lib.ListN.{length}
use lib.Dec.{eqb}
use borrow.Author.Tests.{eq-eqb, ne_eqb}
use Rattle.vocabularies.specs.Vocabulary.{Formula, conj, disj, neg, truth, attr, content, order, value, Distinct}
use Rattle.vocabularies.specs.Facts.{Fact, carried, present, ordered, valued, same_fact, is_among, facts_of}
use Rattle.pages.specs.Items.{Attribute}
use Rattle.pages.specs.RightPages.{names}
use Rattle.judging.specs.Inner.Judgement.{truth_of, atoms_of}
use Rattle.patterns.specs.Inner.Patterns.{flagged, numbered, pattern_of, flag_in, joined_flag, join, atoms_by}
use Rattle.sets.proofs.Booleans.{or_left, or_right}
use Rattle.patterns.proofs.Facts.{same_fact_lem, fact_same, Closed, Covers, facts_cover}
use Rattle.patterns.proofs.Words.{in_append, carried_append, precedes_append, breaks_append, value_kept}

double_below : (b : Bool) (n m : ℕ) → n < m → cond b 1 0 + 2 * n < 2 * m
double_below true n m h = omega arith
double_below false n m h = omega arith

twice : (k : ℕ) → 2 * 2 ^ k ≡ 2 ^ suc k
twice k = omega arith

pub numbered_below : (fs : List Fact) (flag : Fact → Bool) → numbered fs flag < 2 ^ length fs
unfolding numbered
numbered_below [] flag = omega arith
numbered_below (f ∷ fs) flag =
    subst (λ (m : ℕ). cond (flag f) 1 0 + 2 * numbered fs flag < m) (twice (length fs))
    (double_below (flag f) (numbered fs flag) (2 ^ length fs) (numbered_below fs flag))

pub lowest : (b : Bool) (n : ℕ) → eqb ((cond b 1 0 + 2 * n) % 2) 1 ≡ b
lowest true n = eq-eqb ((1 + 2 * n) % 2) 1 (omega arith)
lowest false n = ne_eqb ((0 + 2 * n) % 2) 1 (λ e. omega arith)

pub higher : (b : Bool) (n : ℕ) → (cond b 1 0 + 2 * n) / 2 ≡ n
higher true n = omega arith
higher false n = omega arith

-- The flags of a number are those that it was made of.
pub flag_numbered : (fs : List Fact) (flag : Fact → Bool) (f : Fact) → flag_in fs (numbered fs flag) f ≡ (is_among f fs && flag f)
unfolding numbered flag_in is_among
flag_numbered [] flag f = refl
flag_numbered (g ∷ fs) flag f = go (same_fact f g) refl (flag_numbered fs flag f)
  where
    n : ℕ
    n = cond (flag g) 1 0 + 2 * numbered fs flag

    go : (b : Bool) → same_fact f g ≡ b → flag_in fs (numbered fs flag) f ≡ (is_among f fs && flag f)
        → cond b (eqb (n % 2) 1) (flag_in fs (n / 2) f) ≡ ((b || is_among f fs) && flag f)
    go true e h = lowest (flag g) (numbered fs flag) ∙ ap flag (sym (same_fact_lem f g e))
    go false e h = ap (λ (x : ℕ). flag_in fs x f) (higher (flag g) (numbered fs flag)) ∙ h

pub flag_of : (fs : List Fact) (δ : List Attribute) (w : List ℕ) (f : Fact) → is_among f fs ≡ true → flag_in fs (pattern_of fs δ w) f ≡ flagged δ w f
unfolding pattern_of
flag_of fs δ w f e = flag_numbered fs (flagged δ w) f ∙ ap (λ (b : Bool). b && flagged δ w f) e

-- Numbers with the same flags for all facts are the same.
pub numbered_same : (fs : List Fact) (flag flag' : Fact → Bool) → ((f : Fact) → is_among f fs ≡ true → flag f ≡ flag' f)
    → numbered fs flag ≡ numbered fs flag'
unfolding numbered is_among
numbered_same [] flag flag' h = refl
numbered_same (f ∷ fs) flag flag' h =
    rw (
      h f (or_left (same_fact f f) (is_among f fs) (fact_same f)),
      numbered_same fs flag flag' (λ g e. h g (or_right (same_fact g f) (is_among g fs) e)),
    )

module _ (fs : List Fact) (closed : Closed fs) (δ ε : List Attribute) (u v : List ℕ) where
  joined_flag_lem : (f : Fact) → is_among f fs ≡ true → flagged (δ ++ ε) (u ++ v) f ≡ joined_flag fs (pattern_of fs δ u) (pattern_of fs ε v) f
  joined_flag_lem (carried a) e = rw (flag_of fs δ u (carried a) e, flag_of fs ε v (carried a) e) (carried_append δ ε a)
  joined_flag_lem (present c) e = rw (flag_of fs δ u (present c) e, flag_of fs ε v (present c) e) (in_append c u v)
  joined_flag_lem (ordered c d) e = rw (
    flag_of fs δ u (ordered c d) e,
    flag_of fs ε v (ordered c d) e,
    flag_of fs δ u (present d) (closed c d e).1,
    flag_of fs ε v (present c) (closed c d e).0,
  ) (precedes_append u v d c)
  joined_flag_lem (valued a m) e = rw (flag_of fs δ u (valued a m) e, flag_of fs ε v (valued a m) e) (breaks_append δ ε a m)

  pub pattern_append : pattern_of fs (δ ++ ε) (u ++ v) ≡ join fs (pattern_of fs δ u) (pattern_of fs ε v)
  unfolding pattern_of join
  pattern_append = numbered_same fs (flagged (δ ++ ε) (u ++ v)) (joined_flag fs (pattern_of fs δ u) (pattern_of fs ε v)) joined_flag_lem

-- Attributes and contents of an element by themselves, and then joined.
pub pattern_element : (fs : List Fact) → Closed fs → (δ : List Attribute) (w : List ℕ)
    → pattern_of fs δ w ≡ join fs (pattern_of fs δ []) (pattern_of fs [] w)
pattern_element fs closed δ w =
    ap (λ (ε : List Attribute). pattern_of fs ε w) (sym (append-nil δ)) ∙ pattern_append fs closed δ [] [] w

pub pattern_below : (fs : List Fact) (δ : List Attribute) (w : List ℕ) → pattern_of fs δ w < 2 ^ length fs
unfolding pattern_of
pattern_below fs δ w = numbered_below fs (flagged δ w)

module _ (fs : List Fact) (δ : List Attribute) (w : List ℕ) (once : Distinct (names δ)) where
  truth_by : (ψ : Formula) → Covers fs ψ → truth_of (atoms_of δ w) ψ ≡ truth_of (atoms_by fs (pattern_of fs δ w)) ψ
  unfolding truth_of atoms_of atoms_by
  truth_by (conj ψ₁ ψ₂) k = ap₂ ◌&&◌ (truth_by ψ₁ k.0) (truth_by ψ₂ k.1)
  truth_by (disj ψ₁ ψ₂) k = ap₂ ◌||◌ (truth_by ψ₁ k.0) (truth_by ψ₂ k.1)
  truth_by (neg ψ) k = ap not (truth_by ψ k)
  truth_by truth k = refl
  truth_by (attr a) k = sym (flag_of fs δ w (carried a) k)
  truth_by (content c) k = sym (flag_of fs δ w (present c) k)
  truth_by (order c d) k = ap not (sym (flag_of fs δ w (ordered c d) k))
  truth_by (value a m) k = value_kept δ a m once ∙ ap not (sym (flag_of fs δ w (valued a m) k))

-- A clause is true exactly if its pattern makes it true.
pub truth_of_pattern : (ψ : Formula) (δ : List Attribute) (w : List ℕ) → Distinct (names δ)
    → truth_of (atoms_of δ w) ψ ≡ truth_of (atoms_by (facts_of ψ) (pattern_of (facts_of ψ) δ w)) ψ
truth_of_pattern ψ δ w once = truth_by (facts_of ψ) δ w once ψ (facts_cover ψ)
