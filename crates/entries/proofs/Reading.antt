-- The items that reading a proposal gives stand where it read them.
use Prim.Native.Nat.{ℕ, zero, suc, ◌+◌, ◌≤◌, ◌<◌}
use mathlib.Core.Path.{◌≡◌, refl}
use mathlib.Core.Logic.{◌⊎◌, inl, inr}
use mathlib.Core.List.{List, [], ◌∷◌}
use mathlib.Core.Bool.{Bool, true, false, cond, ◌&&◌}
use native.Mathlib.Omega.{arith}
use lib.Dec.{eqb, leb}
use borrow.Author.Tests.{eqb-true, leb-true, ltb-true}
use Rattle.verdicts.specs.declared.Form.TheVariants.{NotRising, Missing}
use Rattle.commands.specs.declared.Context.{Context}
use Rattle.commands.specs.Commands.{byte, allowed, operands_of, all_in_range}
use Rattle.commands.specs.Reading.{Read, whole, when}
use Rattle.commands.proofs.Laws.{moved, and_then_whole, on_command_whole, when_whole}
use Rattle.summaries.specs.Proposal.{root, edge, string, gap_from, attribute_gap_from, Holding, claim, any_at, one_string}
use Rattle.summaries.specs.ProposalReading.{holding_of, holding_at, holding_there, rank, holdings}
use Rattle.summaries.specs.Inner.Listed.{HoldingFits, Listed}
use Rattle.sets.proofs.Booleans.{and_left, and_right}

chosen : (P : Holding → Type 0) (t : Bool) (x y : Holding) → (t ≡ true → P x) → P y → P (cond t x y)
chosen P true x y f g = f refl
chosen P false x y f g = g

-- An item whose operands are in range, and whose templates are there.
module _ (s : List ℕ) (at count : ℕ) (few : count ≤ 31) where
  abbrev o : ℕ → ℕ
  o i = byte s (at + i)

  second : at + 1 + 1 ≡ at + 2
  second = omega arith

  third : at + 1 + 1 + 1 ≡ at + 3
  third = omega arith

  low : (n : ℕ) → leb n count ≡ true → n < 32
  low n e = let l = leb-true n count e in omega arith

  gap : (k n : ℕ) → k ≡ n → leb (byte s k) 7 ≡ true → byte s n < 8
  gap k n q e = let l : byte s k ≤ 7 = leb-true _ _ e in rw (← q) (omega arith)

  root_fits : leb (o 1) count ≡ true → HoldingFits (claim (root (o 1)))
  root_fits t = low (o 1) t

  edge_fits : all_in_range (operands_of 0x42) s (at + 1) ≡ true → (leb (o 1) count && leb (o 3) count) ≡ true → HoldingFits (claim (edge (o 1) (o 2) (o 3)))
  unfolding operands_of all_in_range
  edge_fits r t = (low (o 1) (and_left _ _ t), gap (at + 1 + 1) (at + 2) second (and_left _ _ r), low (o 3) (and_right (leb (o 1) count) _ t))

  string_fits : all_in_range (operands_of 0x43) s (at + 1) ≡ true → leb (o 1) count ≡ true → HoldingFits (claim (string (o 1) (o 2) (o 3)))
  unfolding operands_of all_in_range
  string_fits r t =
      let l : byte s (at + 1 + 1 + 1) < 64 = ltb-true _ _ (and_left _ _ (and_right (leb (byte s (at + 1 + 1)) 7) _ r)) in
      (low (o 1) t, gap (at + 1 + 1) (at + 2) second (and_left _ _ r), rw (← third) l)

  any_fits : all_in_range (operands_of 0x44) s (at + 1) ≡ true → leb (o 1) count ≡ true → HoldingFits (any_at (o 1) (o 2))
  unfolding operands_of all_in_range
  any_fits r t = (low (o 1) t, gap (at + 1 + 1) (at + 2) second (and_left _ _ r))

  gap_fits : all_in_range (operands_of 0x45) s (at + 1) ≡ true → leb (o 2) count ≡ true → HoldingFits (claim (gap_from (o 1) (o 2)))
  unfolding operands_of all_in_range
  gap_fits r t = (gap (at + 1) (at + 1) refl (and_left _ _ r), low (o 2) t)

  attribute_fits : all_in_range (operands_of 0x46) s (at + 1) ≡ true → leb (o 2) count ≡ true → HoldingFits (claim (attribute_gap_from (o 1) (o 2)))
  unfolding operands_of all_in_range
  attribute_fits r t = (gap (at + 1) (at + 1) refl (and_left _ _ r), low (o 2) t)

  one_fits : all_in_range (operands_of 0x47) s (at + 1) ≡ true → HoldingFits (one_string (o 1))
  unfolding operands_of all_in_range
  one_fits r = ltb-true _ _ (and_left _ _ r)

  module _ (code : ℕ) (r : all_in_range (operands_of code) s (at + 1) ≡ true) (t : holding_there count (holding_of code o) ≡ true) where
    ranges : (k : ℕ) → eqb code k ≡ true → all_in_range (operands_of k) s (at + 1) ≡ true
    ranges k e = rw (← eqb-true code k e) r

    there : (k : ℕ) → eqb code k ≡ true → holding_there count (holding_of k o) ≡ true
    there k e = rw (← eqb-true code k e) t

    holding_fits : HoldingFits (holding_of code o)
    holding_fits =
        chosen HoldingFits (eqb code 0x41) _ _ (λ e. root_fits (there 0x41 e))
        (chosen HoldingFits (eqb code 0x42) _ _ (λ e. edge_fits (ranges 0x42 e) (there 0x42 e))
        (chosen HoldingFits (eqb code 0x43) _ _ (λ e. string_fits (ranges 0x43 e) (there 0x43 e))
        (chosen HoldingFits (eqb code 0x44) _ _ (λ e. any_fits (ranges 0x44 e) (there 0x44 e))
        (chosen HoldingFits (eqb code 0x45) _ _ (λ e. gap_fits (ranges 0x45 e) (there 0x45 e))
        (chosen HoldingFits (eqb code 0x46) _ _ (λ e. attribute_fits (ranges 0x46 e) (there 0x46 e))
        (chosen HoldingFits (eqb code 0x47) _ _ (λ e. one_fits (ranges 0x47 e)) tt))))))

when_cases : {A : Type 0} (t : Bool) (yes' no' : Unit {0} → Read A) (b : A) (end : ℕ) → when t yes' no' ≡ whole b end
    → ((t ≡ true) × (yes' tt ≡ whole b end)) ⊎ ((t ≡ false) × (no' tt ≡ whole b end))
when_cases true yes' no' b end e = inl (refl, e)
when_cases false yes' no' b end e = inr (refl, e)

same_tree : {A : Type 0} (a b : A) (m n : ℕ) → whole a m ≡ whole b n → b ≡ a
same_tree a b m n e = cc

pub holdings_listed : (f : ℕ) (x : Context) (count : ℕ) (s : List ℕ) (least at : ℕ) (xs : List Holding) (end : ℕ) → count ≤ 31
    → holdings f x count s least at ≡ whole xs end → Listed x s at xs
unfolding holdings Listed
holdings_listed zero x count s least at xs end few e = absurd (let z : ◌≡◌ {A = ℕ} 0 1 = cc in omega arith)
holdings_listed (suc f) x count s least at xs end few e = elim (when_cases (allowed x (byte s at)) _ _ xs end e) [
  | inr h ↦ rw (same_tree [] xs at end h.1) h.0
  | inl h ↦
      let (code, next, stands, e₁) = on_command_whole x s at _ xs end h.1 in
      let m = moved x s at code next stands in
      let (there, e₂) = when_whole (holding_there count (holding_at s at code)) _ Missing at xs end e₁ in
      let (rises, e₃) = when_whole (leb least (rank s at code)) _ NotRising at xs end e₂ in
      let (rest, after, reads, e₄) = and_then_whole (holdings f x count s (rank s at code + 1) next.at) _ xs end e₃ in
      rw (same_tree (holding_at s at code ∷ rest) xs after end e₄) (
        record { permitted = h.0; is = rw m.first; fits = holding_fits s at count few code (rw m.first m.ranges) there },
        rw (← m.after) (holdings_listed f x count s (rank s at code + 1) next.at rest after few reads),
      )
]
