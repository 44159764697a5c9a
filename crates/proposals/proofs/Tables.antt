-- Tables with a number for each entry, as they are filled: the lengths of the items, and where in the buffer they end.
use Prim.Native.Nat.{ℕ, ◌+◌, ◌-◌, ◌/◌, ◌%◌, ◌≤◌, ◌<◌}
use mathlib.Core.Path.{◌≡◌, refl, sym, ap, ◌∙◌}
use mathlib.Core.List.{List, [], ◌∷◌, ◌++◌}
use mathlib.Core.Bool.{Bool, true, false}
use native.Mathlib.Omega.{arith}
use lib.ListN.{length, get_or, set, take, drop, replicate, length-set, length-replicate, length-append}
use lib.Seq.{get_or-set_same, get_or-set_other}
use lib.Dec.{eqb}
use borrow.Author.Tests.{eqb-true, eqb-false}
use Rattle.memory.specs.Inner.Laid.{laid, Writes}
use Rattle.memory.proofs.Laid.{laid_length, laid_append, laid_there, laid_before, writes_same}
use Rattle.proposals.specs.Inner.Bytes.{head_bytes, EndAt, items_at, headed_at, Counted, Repeated, Stand}

-- The table's room, and what holds of the numbers of the first n entries.
pub record Filled (P : ℕ → ℕ → Type 0) (n : ℕ) (table : List ℕ) : Type 0 where
  pub room : length table ≡ 256
  pub holds : (i : ℕ) → i < n → P i (get_or table i 0)

module _ (P : ℕ → ℕ → Type 0) where
  pub filled_none : Filled P 0 (replicate 256 0)
  filled_none = record { room = length-replicate {A = ℕ} 256 0; holds = λ i l. absurd (omega arith) }

  pub filled_more : (i x : ℕ) (table : List ℕ) → i < 256 → Filled P i table → P i x → Filled P (i + 1) (set table i x)
  filled_more i x table l filled p = record { room = length-set table i x ∙ filled.room; holds = λ k m. go k m (eqb k i) refl }
    where
      go : (k : ℕ) → k < i + 1 → (t : Bool) → eqb k i ≡ t → P k (get_or (set table i x) k 0)
      go k m true q = rw (eqb-true k i q, get_or-set_same table i x 0 (omega (arith, filled.room))) p
      go k m false q = let n = eqb-false k i q in rw (get_or-set_other table i k x 0 n) (filled.holds k (omega arith))

  filled_same : (Q : ℕ → ℕ → Type 0) (n : ℕ) (table : List ℕ) → ((i x : ℕ) → P i x → Q i x) → Filled P n table → Filled Q n table
  filled_same Q n table f filled = record { room = filled.room; holds = λ i l. f i (get_or table i 0) (filled.holds i l) }

module _ (templates : ℕ) (work : List ℕ) where
  -- The number is the length of the entry's items; they end at the number.
  abbrev pub IsLength : ℕ → ℕ → Type 0
  IsLength i size = size ≡ length (items_at templates work i)

  abbrev pub IsEnd : List ℕ → ℕ → ℕ → ℕ → Type 0
  IsEnd out at i end = EndAt out at end (items_at templates work i)

-- ---- bytes that stand in the buffer

-- What is written later leaves them.
end_kept : (out : List ℕ) (at end : ℕ) (bs cs : List ℕ) (r : ℕ) (after : List ℕ) → Writes out at cs r after → EndAt out at end bs → EndAt after r end bs
end_kept out at end bs cs r after (er, ea) e = record {
  below = omega (arith, e.below, er);
  long = e.long;
  there = ap (λ (xs : List ℕ). take (length bs) (drop (end - length bs) xs)) ea ∙ laid_before out at cs (end - length bs) (length bs) (omega (arith, e.below, e.long)) ∙ e.there;
}

end_there : (out : List ℕ) (at : ℕ) (xs bs : List ℕ) (r : ℕ) (after : List ℕ) → at + length (xs ++ bs) ≤ length out → Writes out at (xs ++ bs) r after → EndAt after r r bs
end_there out at xs bs r after fits (er, ea) =
    let n : length (xs ++ bs) ≡ length xs + length bs = length-append xs bs in
    let start : r - length bs ≡ at + length xs = omega arith in
    record {
      below = omega arith;
      long = omega arith;
      there = rw (start, ea, ← laid_append out at xs bs) (laid_there (laid out at xs) (at + length xs) bs (omega (arith, laid_length out at xs)));
    }

end_headed : (p v : ℕ) (out : List ℕ) (at : ℕ) (bs : List ℕ) (r : ℕ) (after : List ℕ) → at + length (head_bytes p v bs) ≤ length out → Writes out at (head_bytes p v bs) r after → EndAt after r r bs
end_headed p v out at [] r after fits w = end_there out at [] [] r after fits w
end_headed p v out at (b ∷ bs) r after fits w = end_there out at (0x40 ∷ p ∷ v ∷ []) (b ∷ bs) r after fits w

module _ (templates : ℕ) (work out : List ℕ) (at r : ℕ) (after : List ℕ) where
  pub stand_kept : (cs : List ℕ) → Writes out at cs r after → (n : ℕ) (ends : List ℕ) → Stand templates work n out at ends → Stand templates work n after r ends
  stand_kept cs w n ends stand i l = end_kept out at (get_or ends i 0) (items_at templates work i) cs r after w (stand i l)

  -- One entry more is written, and its end noted.
  pub ends_more : (i : ℕ) (ends : List ℕ) → i < 256 → at + length (headed_at templates work i) ≤ length out → Writes out at (headed_at templates work i) r after
      → Filled (IsEnd templates work out at) i ends → Filled (IsEnd templates work after r) (i + 1) (set ends i r)
  ends_more i ends l fits w filled =
      filled_more (IsEnd templates work after r) i r ends l
      (filled_same (IsEnd templates work out at) (IsEnd templates work after r) i ends (λ k end e. end_kept out at end (items_at templates work k) (headed_at templates work i) r after w e) filled)
      (end_headed (i / 8) (i % 8) out at (items_at templates work i) r after fits w)

-- ---- an entry that is repeated

module _ (templates : ℕ) (work : List ℕ) (i : ℕ) (repeated : Repeated work (i / 8) (i % 8)) where
  pub has_before : 8 ≤ i
  has_before = let l : 0 < i / 8 = repeated.0 in omega arith

  items_before : items_at templates work i ≡ items_at templates work (i - 8)
  items_before =
      let l : 0 < i / 8 = repeated.0 in
      let p : i / 8 - 1 ≡ (i - 8) / 8 = omega arith in
      let v : i % 8 ≡ (i - 8) % 8 = omega arith in
      repeated.1 templates ∙ rw (p, v) refl

  pub length_before : (lengths : List ℕ) → Counted templates work i lengths → get_or lengths (i - 8) 0 ≡ length (items_at templates work i)
  length_before lengths counted = let l = has_before in counted (i - 8) (omega arith) ∙ ap length (sym items_before)

  module _ (out : List ℕ) (at : ℕ) (ends : List ℕ) (stand : Stand templates work i out at ends) (size : ℕ) (e : size ≡ length (items_at templates work i)) where
    abbrev end : ℕ
    end = get_or ends (i - 8) 0

    before : EndAt out at end (items_at templates work i)
    before = let l = has_before in rw items_before (stand (i - 8) (omega arith))

    pub end_below : (size ≤ end) × (end ≤ at)
    end_below = (rw e before.long, before.below)

    pub copies : (r : ℕ) (after : List ℕ) → Writes out at (take size (drop (end - size) out)) r after → Writes out at (items_at templates work i) r after
    copies r after w = writes_same out at (take size (drop (end - size) out)) (items_at templates work i) r after (rw e (sym before.there)) w
