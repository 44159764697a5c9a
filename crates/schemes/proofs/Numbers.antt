-- Patterns are told by their flags: the members of a number are the flags that it was made of.
use Prim.Native.Nat.{ℕ, ◌^◌, ◌<◌, ◌≤◌}
use mathlib.Core.Path.{◌≡◌, refl, sym, ◌∙◌}
use mathlib.Core.List.{List}
use mathlib.Core.Bool.{Bool, true, false}
use native.Mathlib.Omega.{arith}
use lib.ListN.{length, get_or}
use lib.Dec.{ltb}
use lib.Pow.{pow_mono}
use borrow.Author.Tests.{ltb-true, ltb-false}
use Rattle.sets.specs.Sets.{member}
use Rattle.sets.proofs.Laws.{member_high, same_members}
use Rattle.vocabularies.specs.Facts.{Fact, present}
use Rattle.patterns.specs.Inner.Patterns.{numbered}
use Rattle.patterns.proofs.Clauses.{numbered_below}
use Rattle.patterns.proofs.Bits.{numbered_bit}

-- A number of eight bits with the flags of the facts, and no others.
pub numbered_is : (fs : List Fact) (flag : Fact → Bool) (n : ℕ) → length fs ≤ 8 → n < 2 ^ 8
    → ((i : ℕ) → i < length fs → member n i ≡ flag (get_or fs i (present 0))) → ((i : ℕ) → length fs ≤ i → member n i ≡ false)
    → n ≡ numbered fs flag
numbered_is fs flag n few b flags rest = same_members 8 n (numbered fs flag) b below (λ k h. go k (ltb k (length fs)) refl)
  where
    below : numbered fs flag < 2 ^ 8
    below =
        let p : 2 ^ length fs ≤ 2 ^ 8 = pow_mono few in
        omega (arith, numbered_below fs flag)

    go : (k : ℕ) (t : Bool) → ltb k (length fs) ≡ t → member n k ≡ member (numbered fs flag) k
    go k true e =
        let h : k < length fs = ltb-true k (length fs) e in
        flags k h ∙ sym (numbered_bit fs flag k h)
    go k false e =
        let h : length fs ≤ k = ltb-false k (length fs) e in
        rest k h ∙ sym (member_high (length fs) (numbered fs flag) k (numbered_below fs flag) h)
