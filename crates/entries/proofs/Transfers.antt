-- The transfer functions as ways of passing.
use Prim.Native.Nat.{ℕ}
use mathlib.Core.Path.{◌≡◌, refl, sym, subst, ◌∙◌}
use mathlib.Core.List.{List}
use mathlib.Core.Bool.{Bool, true, false, not, cond, ◌&&◌, ◌||◌, or-false}
use mathlib.Core.Logic.{inl, inr}
use lib.Dec.{eqb}
use Rattle.sets.specs.Sets.{member}
use Rattle.summaries.specs.Proposal.{Claim, root, edge, string, gap_from, attribute_gap_from}
use Rattle.summaries.specs.Summaries.{Summary, Strings, Within, plug_summary, plug_string_summary}
use Rattle.strings.specs.declared.Values.{Values}
use Rattle.strings.specs.Inner.Promises.{holds_value}
use Rattle.entries.specs.declared.Passing.{Passing}
use Rattle.entries.specs.Inner.Passing.{passed, wholly, without_roots, plugging, filling, Decides}
use Rattle.entries.proofs.Tests.{decided_true, decided_false, decides_map}
use Rattle.sets.proofs.Booleans.{or_left, or_right, or_cases}
use Rattle.graphs.specs.Inner.Graphs.{Keeps, holds}
use Rattle.graphs.specs.Inner.Promises.{Joins}
use Rattle.graphs.proofs.Storing.{keeps_same}

-- A summary within another, by what its claims say.
within_alike : (F G R : Summary) → ((c : Claim) → F c ≡ G c) → Within G R → Within F R
within_alike F G R e w c p = w c (sym (e c) ∙ p)

-- The same of a way of passing, and of what it is.
pub way_keeps : (how known : Passing) → how ≡ known → (graph : List ℕ) (S : Summary) → Keeps graph (passed how S) → Keeps graph (passed known S)
way_keeps how known e graph S K = subst (λ (w : Passing). Keeps graph (passed w S)) e K

pub way_decides : (how known : Passing) → how ≡ known → (S R : Summary) (b : Bool) → Decides b (Within (passed how S) R) → Decides b (Within (passed known S) R)
way_decides how known e S R b d = subst (λ (w : Passing). Decides b (Within (passed w S) R)) e d

-- A copy.
module _ (S R : Summary) where
  wholly_same : (c : Claim) → passed wholly S c ≡ S c
  wholly_same (root n) = or-false _
  wholly_same (edge n g m) = or-false _
  wholly_same (string n h s) = or-false _
  wholly_same (gap_from g n) = or-false _
  wholly_same (attribute_gap_from h n) = or-false _

  pub copy_decides : (b : Bool) → Decides b (Within (passed wholly S) R) → Decides b (Within S R)
  copy_decides b d = decides_map b (within_alike S (passed wholly S) R (λ c. sym (wholly_same c))) (within_alike (passed wholly S) S R wholly_same) d

-- A plug: the value that is plugged passes with its gap, the value plugged in without its roots.
mix : (a b q o r : Bool) → ((a || b) || ((q && o) && r)) ≡ ((a || (q && (o && r))) || (b || false))
mix true b q o r = refl
mix false true true true true = refl
mix false true true true false = refl
mix false true true false r = refl
mix false true false o r = refl
mix false false true true r = sym (or-false r)
mix false false true false r = refl
mix false false false o r = refl

both : (a b : Bool) → (a || b) ≡ ((a || false) || (b || false))
both true b = refl
both false b = sym (or-false b)

pick : (q a b : Bool) → cond q b (a || b) ≡ (((not q && a) || false) || (b || false))
pick true a b = sym (or-false b)
pick false true b = refl
pick false false b = sym (or-false b)

module _ (g roots : ℕ) (S T : Summary) (is : (n : ℕ) → T (root n) ≡ member roots n) where
  plug_same : (c : Claim) → plug_summary g S T c ≡ (passed (plugging g roots) S c || passed without_roots T c)
  plug_same (root n) = sym (or-false _ ∙ or-false (S (root n)))
  plug_same (edge n k m) = rw (is m) (mix (S (edge n k m)) (T (edge n k m)) (eqb k g) (S (gap_from k n)) (member roots m))
  plug_same (string n h s) = both (S (string n h s)) (T (string n h s))
  plug_same (gap_from k n) = pick (eqb k g) (S (gap_from k n)) (T (gap_from k n))
  plug_same (attribute_gap_from h n) = both (S (attribute_gap_from h n)) (T (attribute_gap_from h n))

  pub plug_keeps : (graph : List ℕ) → Keeps graph (λ c. passed (plugging g roots) S c || passed without_roots T c) → Keeps graph (plug_summary g S T)
  plug_keeps graph K = keeps_same graph _ _ (λ c w. plug_same c) K

  module _ (R : Summary) where
    plugged_within : Within (plug_summary g S T) R → Within (passed (plugging g roots) S) R
    plugged_within w c p = w c (plug_same c ∙ or_left _ _ p)

    plugged_in_within : Within (plug_summary g S T) R → Within (passed without_roots T) R
    plugged_in_within w c p = w c (plug_same c ∙ or_right (passed (plugging g roots) S c) _ p)

    both_within : Within (passed (plugging g roots) S) R → Within (passed without_roots T) R → Within (plug_summary g S T) R
    both_within v w c p = elim (or_cases (passed (plugging g roots) S c) (passed without_roots T c) (sym (plug_same c) ∙ p)) [ inl q ↦ v c q | inr q ↦ w c q ]

    pub plug_fails : (b : Bool) → b ≡ false → Decides b (Within (passed (plugging g roots) S) R) → Decides b (Within (plug_summary g S T) R)
    plug_fails b e d = rw e λ w. decided_false b d e (plugged_within w)

    pub plug_decides : (a b : Bool) → a ≡ true → Decides a (Within (passed (plugging g roots) S) R) → Decides b (Within (passed without_roots T) R) → Decides b (Within (plug_summary g S T) R)
    plug_decides a b e c d = decides_map b (both_within (decided_true a c e)) plugged_in_within d

-- Both graphs passed, and joined.
pub plugged_joined : (g roots : ℕ) (S T : Summary) (a b b' r : List ℕ) (changed : Bool) → Keeps b T → ((n : ℕ) → member roots n ≡ holds b (root n))
    → Keeps a (passed (plugging g roots) S) → Keeps b' (passed without_roots T) → Joins a b' r changed → Keeps r (plug_summary g S T)
plugged_joined g roots S T a b b' r changed K is L M J = plug_keeps g roots S T (λ n. K.same (root n) tt ∙ sym (is n)) r (J.keeps _ _ L M)

-- A plug of strings.
fill_string : (a q o y : Bool) → (a || ((q && o) && y)) ≡ (a || (q && (o && y)))
fill_string true q o y = refl
fill_string false true o y = refl
fill_string false false o y = refl

none_left : (q a : Bool) → cond q false a ≡ ((not q && a) || false)
none_left true a = refl
none_left false a = sym (or-false a)

module _ (h : ℕ) (strings : Values) (S : Summary) (Y : Strings) (is : (t : ℕ) → Y t ≡ holds_value strings t) where
  fill_same : (c : Claim) → plug_string_summary h S Y c ≡ passed (filling h strings) S c
  fill_same (root n) = sym (or-false _)
  fill_same (edge n g m) = sym (or-false _)
  fill_same (string n k s) = rw (is s) (fill_string (S (string n k s)) (eqb k h) (S (attribute_gap_from k n)) (holds_value strings s))
  fill_same (gap_from g n) = sym (or-false _)
  fill_same (attribute_gap_from k n) = none_left (eqb k h) (S (attribute_gap_from k n))

  pub fill_keeps : (graph : List ℕ) → Keeps graph (passed (filling h strings) S) → Keeps graph (plug_string_summary h S Y)
  fill_keeps graph K = keeps_same graph _ _ (λ c w. fill_same c) K

  pub fill_decides : (R : Summary) (b : Bool) → Decides b (Within (passed (filling h strings) S) R) → Decides b (Within (plug_string_summary h S Y) R)
  fill_decides R b d = decides_map b
      (within_alike (plug_string_summary h S Y) (passed (filling h strings) S) R fill_same)
      (within_alike (passed (filling h strings) S) (plug_string_summary h S Y) R (λ c. sym (fill_same c))) d
