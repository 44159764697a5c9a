-- A set stepped through member by member.
use Prim.Native.Nat.{ℕ, zero, suc, ◌+◌, ◌-◌, ◌*◌, ◌≤◌, ◌<◌}
use mathlib.Core.Path.{◌≡◌, refl, sym, ap, subst, ◌∙◌}
use mathlib.Core.List.{List, [], ◌∷◌}
use mathlib.Core.Bool.{Bool, true, false, cond}
use native.Mathlib.Nat.{mul-le-mul, add-mul}
use native.Mathlib.Omega.{arith}
use lib.ListN.{length, length-append}
use Rattle.std.specs.Prelude.{Option, Some, None}
use Rattle.sets.specs.Sets.{member}
use Rattle.sets.specs.Inner.Promises.{NextMember, MemberFrom, count_below}
use Rattle.sets.proofs.Counts.{count_most}
use Rattle.summaries.specs.ProposalOf.{each}
use Rattle.memory.specs.Inner.Laid.{Writes}
use Rattle.proposals.specs.Inner.Bytes.{item_bytes, member_items, members}
use Rattle.proposals.proofs.Each.{each_skip, each_same, writing_fits, writing_goes}

-- Where nothing is next there is no member.
pub none_after : (set from : ℕ) (next : Option ℕ) → NextMember set from next → ((n : ℕ) → next ≡ Some n → ⊥) → (k : ℕ) → from ≤ k → member set k ≡ false
none_after set from None is none k l = is k l
none_after set from (Some n) is none k l = absurd (none n refl)

-- ---- items of the members, behind a prefix

module _ (before : List ℕ) (set below : ℕ) where
  abbrev pub items : ℕ → List ℕ
  items = member_items before (member set)

  no_item : (q : ℕ) → member set q ≡ false → items q ≡ []
  no_item q e = rw e

  an_item : (q : ℕ) → member set q ≡ true → items q ≡ item_bytes before q
  an_item q e = rw e

  -- ---- written

  module _ (out : List ℕ) (at n : ℕ) (half : List ℕ) where
    abbrev pub Written : ℕ → Type 0
    Written q = Writes out at (each q items) n half

    -- Numbers that are no members are passed.
    passes : (from d : ℕ) → ((q : ℕ) → from ≤ q → q < from + d → member set q ≡ false) → Written from → Written (from + d)
    passes from zero none w = subst Written (omega arith) w
    passes from (suc d) none w =
        let e : from + d + 1 ≡ from + suc d = omega arith in
        let here : Written (from + d) = passes from d (λ q l m. none q l (omega arith)) w in
        subst Written e (rw (each_skip items (from + d) (no_item (from + d) (none (from + d) (omega arith) (omega arith)))) here)

    up_to : (from q : ℕ) → from ≤ q → ((k : ℕ) → from ≤ k → k < q → member set k ≡ false) → Written from → Written q
    up_to from q l none w =
        let e : from + (q - from) ≡ q = omega arith in
        subst Written e (passes from (q - from) (λ k a b. none k a (omega arith)) w)

    module _ (from : ℕ) (w : Written from) where
      module _ (k : ℕ) (next : MemberFrom set from k) where
        at_member : Written k
        at_member = up_to from k next.after next.skips w

        pub write_fits : k < below → at + length (members before below (member set)) ≤ length out → n + length (item_bytes before k) ≤ length half
        unfolding members
        write_fits l h = subst (λ (bs : List ℕ). n + length bs ≤ length half) (an_item k next.is_held) (writing_fits items out at below k n half l h at_member)

        pub write_goes : (r : ℕ) (after : List ℕ) → Writes half n (item_bytes before k) r after → Writes out at (each (k + 1) items) r after
        write_goes r after v = writing_goes items out at k n half r after at_member (rw (an_item k next.is_held) v)

      pub write_ends : from ≤ below → ((k : ℕ) → from ≤ k → k < below → member set k ≡ false) → Writes out at (members before below (member set)) n half
      unfolding members
      write_ends l none = up_to from below l none w

-- ---- their bytes

module _ (before : List ℕ) (held : ℕ → Bool) where
  item_length : (q n : ℕ) (t : Bool) → n * suc (length before) + length (cond t (item_bytes before q) []) ≡ (n + cond t 1 0) * suc (length before)
  item_length q n true = rw (length-append before (q ∷ []), add-mul n 1 (suc (length before))) (omega arith)
  item_length q n false = let e : n + 0 ≡ n = omega arith in rw e (omega arith)

  each_item : (m : ℕ) → length (each m (member_items before held)) ≡ count_below m held * suc (length before)
  unfolding each count_below
  each_item zero = omega arith
  each_item (suc m) =
      length-append (each m (member_items before held)) (member_items before held m)
      ∙ ap (λ (n : ℕ). n + length (member_items before held m)) (each_item m)
      ∙ item_length m (count_below m held) (held m)

  pub members_length : (below : ℕ) → length (members before below held) ≡ count_below below held * suc (length before)
  unfolding members
  members_length below = each_item below

  pub members_counted : (below n k : ℕ) → n ≡ count_below below held → k ≡ length before → n * (k + 1) ≡ length (members before below held)
  members_counted below n k e f = let g : k + 1 ≡ suc (length before) = omega arith in rw (e, g) (sym (members_length below))

  pub members_most : (below : ℕ) → below ≤ 64 → length before ≤ 3 → length (members before below held) ≤ 256
  members_most below l m = rw (members_length below) (mul-le-mul {n₂ = 64} {m₂ = 4} (omega (arith, count_most below held)) (omega arith))

pub members_same : (before : List ℕ) (below : ℕ) (p q : ℕ → Bool) → ((k : ℕ) → k < below → p k ≡ q k) → members before below p ≡ members before below q
unfolding members
members_same before below p q h = each_same below (member_items before p) (member_items before q) λ k l. ap (λ (t : Bool). cond t (item_bytes before k) []) (h k l)
