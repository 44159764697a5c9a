-- A proposal that is read is the one whose bytes were read, in range.
use Prim.Native.Nat.{ℕ, zero, suc, ◌+◌, ◌*◌, ◌-◌, ◌≤◌, ◌<◌}
use native.Mathlib.Omega.{arith}
use mathlib.Core.Path.{◌≡◌, refl}
use mathlib.Core.List.{List, [], ◌∷◌}
use mathlib.Core.Bool.{Bool, true, false, cond, and-eq-true_iff}
use lib.Dec.{leb, ltb, eqb}
use borrow.Author.Tests.{leb-true, ltb-true, ltb-false, eqb-true}
use Rattle.commands.specs.declared.Context.TheVariants.{Heads}
use Rattle.commands.specs.Commands.{byte, allowed, operands_of, operand_bytes}
use Rattle.programs.specs.Program.{Variable, template_variable, string_variable}
use Rattle.summaries.specs.Proposal.{Claim, root, edge, gap_from, attribute_gap_from, Holding, claim, any_at, one_string, Head}
use Rattle.summaries.specs.ProposalReading.{holding_at, holding_there, rank, holdings, variable_of, holding_context, proposal}
use Rattle.agreement.proofs.Readings.{Gives, gives, refuses, runs_out, gives_command, gives_when, gives_then, gives_map, Taken, is_first, is_second}
use Rattle.round_trip.specs.WrittenJob.{written_holding, written_holdings, written_variable, written_proposal}
use Rattle.round_trip.specs.InRange.{Bytes}
use Rattle.round_trip.specs.JobInRange.{RisingBy, HoldingInRange, HoldingsInRange, VariableInRange, HeadsInRange, head_key, ProposalInRange}
use Rattle.round_trip.specs.Exact.{Span}
use Rattle.round_trip.proofs.Spans.{nothing, then, span_bytes, taken_span, taken_fits, one_of, ◌or◌, done}
use Rattle.round_trip.proofs.Order.{number, before, pair_before, First, first_map, rising_more}

-- An item that was read: reading compares its bytes as one number.
record HoldingRead (s : List ℕ) (count : ℕ) (v : Variable) (at rank : ℕ) (h : Holding) (next : ℕ) : Type 0 where
  span : Span s at (written_holding h) next
  is_in_range : HoldingInRange count v h
  ranked : rank ≡ number 4 (written_holding h)

-- What the test of an item's templates says of them.
abbrev There : ℕ → Holding → Type 0
There count (claim (root t)) = t ≤ count
There count (claim (edge n g t)) = (n ≤ count) × (t ≤ count)
There count (claim (Claim.string n h s)) = n ≤ count
There count (claim (gap_from g n)) = n ≤ count
There count (claim (attribute_gap_from h n)) = n ≤ count
There count (any_at n h) = n ≤ count
There count (one_string s) = Unit {0}
There count Holding.any_string = Unit {0}

is_there : (count : ℕ) (h : Holding) → holding_there count h ≡ true → There count h
is_there count (claim (root t)) e = leb-true t count e
is_there count (claim (edge n g t)) e = let both = (and-eq-true_iff (leb n count) (leb t count)).0 e in (leb-true n count both.0, leb-true t count both.1)
is_there count (claim (Claim.string n h s)) e = leb-true n count e
is_there count (claim (gap_from g n)) e = leb-true n count e
is_there count (claim (attribute_gap_from h n)) e = leb-true n count e
is_there count (any_at n h) e = leb-true n count e
is_there count (one_string s) e = tt
is_there count Holding.any_string e = tt

module _ (s : List ℕ) (count at next : ℕ) where
  holding_read : (v : Variable) (code : ℕ) → Taken (holding_context v) s at code next → There count (holding_at s at code)
      → HoldingRead s count v at (rank s at code) (holding_at s at code) next
  unfolding allowed rank operands_of operand_bytes
  holding_read (template_variable x) code t h =
      let range = (and-eq-true_iff (leb 0x41 code) (leb code 0x46)).0 t.may in
      one_of {low = 0x41} {n = 6} (
      (λ e. rw e (record { span = taken_span (rw e at t); is_in_range = rw e at h; ranked = omega arith }))
      or (λ e. let t' = rw e at t in rw e (record { span = taken_span t'; is_in_range = omega (arith, taken_fits t', rw e at h); ranked = omega arith }))
      or (λ e. let t' = rw e at t in rw e (record { span = taken_span t'; is_in_range = omega (arith, taken_fits t', rw e at h); ranked = omega arith }))
      or (λ e. let t' = rw e at t in rw e (record { span = taken_span t'; is_in_range = omega (arith, taken_fits t', rw e at h); ranked = omega arith }))
      or (λ e. let t' = rw e at t in rw e (record { span = taken_span t'; is_in_range = omega (arith, taken_fits t', rw e at h); ranked = omega arith }))
      or (λ e. let t' = rw e at t in rw e (record { span = taken_span t'; is_in_range = omega (arith, taken_fits t', rw e at h); ranked = omega arith }))
      or done
      )
      (leb-true 0x41 code range.0) (omega (arith, leb-true code 0x46 range.1))
  holding_read (string_variable y) code t h = by_test (eqb code 0x47) refl
    where
      by_test : (b : Bool) → eqb code 0x47 ≡ b → HoldingRead s count (string_variable y) at (rank s at code) (holding_at s at code) next
      by_test true q = let e : code ≡ 0x47 = eqb-true code 0x47 q in let t' = rw e at t in rw e (record { span = taken_span t'; is_in_range = (taken_fits t').0; ranked = omega arith })
      by_test false q = let e : code ≡ 0x48 = is_second 0x47 0x48 code t.may q in rw e (record { span = taken_span (rw e at t); is_in_range = tt; ranked = omega arith })

-- Items that were read under a head, each at least `least` as a number.
record HoldingsRead (s : List ℕ) (count : ℕ) (v : Variable) (least at : ℕ) (hs : List Holding) (end : ℕ) : Type 0 where
  span : Span s at (written_holdings hs) end
  is_in_range : HoldingsInRange count v hs
  rising : RisingBy written_holding hs
  from : First (λ h. (least ≤ number 4 (written_holding h)) × Bytes (written_holding h)) hs

module _ (count : ℕ) (s : List ℕ) (b : Bytes s) where
  holdings_written : (f : ℕ) (v : Variable) (least at : ℕ) → Gives (Unit {0}) (HoldingsRead s count v least at) (holdings f (holding_context v) count s least at)
  unfolding holdings written_holdings HoldingsInRange RisingBy
  holdings_written zero v least at = runs_out tt
  holdings_written (suc f) v least at = gives_when (allowed (holding_context v) (byte s at))
      (λ _ _. gives_command (holding_context v) s at λ code next t. gives_when (holding_there count (holding_at s at code))
      (λ _ there. gives_when (leb least (rank s at code))
      (λ _ l. gives_then (holdings_written f v (rank s at code + 1) next) λ hs end n.
      let h = holding_at s at code in
      let m = holding_read s count at next v code t (is_there count h there) in
      let small = span_bytes b m.span in
      gives (record {
        span = then m.span n.span;
        is_in_range = (m.is_in_range, n.is_in_range);
        rising = rising_more written_holding h hs (first_map (λ h' p. before 4 _ _ small p.1 (omega (arith, p.0, m.ranked))) hs n.from) n.rising;
        from = (omega (arith, leb-true least (rank s at code) l, m.ranked), small);
      }))
      (λ _ _. refuses))
      (λ _ _. refuses))
      (λ _ _. gives (record { span = nothing at; is_in_range = tt; rising = tt; from = tt }))

-- The variable of a head, by its number.
variable_number : (v : ℕ) → written_variable (variable_of v) ≡ v
variable_number v = by_test (ltb v 4) refl
  where
    by_test : (b : Bool) → ltb v 4 ≡ b → written_variable (cond b (template_variable v) (string_variable (v - 4))) ≡ v
    by_test true e = refl
    by_test false e = omega (arith, ltb-false v 4 e)

variable_read : (v : ℕ) → v ≤ 7 → VariableInRange (variable_of v)
variable_read v h = by_test (ltb v 4) refl
  where
    by_test : (b : Bool) → ltb v 4 ≡ b → VariableInRange (cond b (template_variable v) (string_variable (v - 4)))
    by_test true e = omega (arith, ltb-true v 4 e)
    by_test false e = omega (arith, ltb-false v 4 e)

-- Heads that were read, each at least `least` as a number, up to `4F`.
record HeadsRead (s : List ℕ) (count points least at : ℕ) (hs : List Head) (end : ℕ) : Type 0 where
  span : Span s at (written_proposal hs) end
  heads : HeadsInRange count points hs
  rising : RisingBy head_key hs
  from : First (λ h. (least ≤ h.point * 8 + written_variable h.variable) × (written_variable h.variable ≤ 7)) hs

module _ (count points : ℕ) (s : List ℕ) where
  head_read : {p v least at next middle end : ℕ} {φs : List Holding} {hs : List Head} → Span s at (0x40 ∷ p ∷ v ∷ []) next → v ≤ 7 → p < points → least ≤ p * 8 + v
      → HoldingsRead s count (variable_of v) 0 next φs middle → HeadsRead s count points (p * 8 + v + 1) middle hs end
      → HeadsRead s count points least at (record { point = p; variable = variable_of v; holdings = φs } ∷ hs) end
  unfolding written_proposal HeadsInRange
  head_read {p} {v} {at} {next} {φs} {hs} q h there l m n =
      let head : Head = record { point = p; variable = variable_of v; holdings = φs } in
      let same : written_variable (variable_of v) ≡ v = variable_number v in
      let first : Span s at (0x40 ∷ p ∷ written_variable (variable_of v) ∷ []) next = rw same q in
      record {
        span = then (then first m.span) n.span;
        heads = (record { point = there; variable = variable_read v h; holdings = m.is_in_range; rising = m.rising }, n.heads);
        rising = rising_more head_key head hs (first_map (λ h' k. pair_before p (written_variable (variable_of v)) h'.point (written_variable h'.variable) k.1 (omega (arith, k.0))) hs n.from) n.rising;
        from = (omega arith, omega arith);
      }

  heads_written : Bytes s → (f least at : ℕ) → Gives (Unit {0}) (HeadsRead s count points least at) (proposal f count points s least at)
  unfolding proposal written_proposal HeadsInRange RisingBy allowed operands_of operand_bytes
  heads_written b zero least at = runs_out tt
  heads_written b (suc f) least at = gives_command Heads s at λ code next t. gives_when (eqb code 0x4F)
      (λ _ c. gives (record { span = taken_span (rw (eqb-true code 0x4F c) at t); heads = tt; rising = tt; from = tt }))
      (λ _ c. let t' = rw (is_first 0x40 0x4F code t.may c) at t in gives_when (ltb (byte s (at + 1)) points)
      (λ _ there. gives_when (leb least (byte s (at + 1) * 8 + byte s (at + 2)))
      (λ _ l. gives_then (holdings_written count s b f (variable_of (byte s (at + 2))) 0 next) λ φs middle m.
      gives_then (heads_written b f (byte s (at + 1) * 8 + byte s (at + 2) + 1) middle) λ hs end n.
      gives (head_read (taken_span t') (taken_fits t').1.0 (ltb-true _ _ there) (leb-true _ _ l) m n))
      (λ _ _. refuses))
      (λ _ _. refuses))

  pub proposal_written : Bytes s → (f at : ℕ) → Gives (Unit {0}) (λ hs end. Span s at (written_proposal hs) end × ProposalInRange count points hs) (proposal f count points s 0 at)
  proposal_written b f at = gives_map (λ hs end n. (n.span, record { heads = n.heads; rising = n.rising })) (heads_written b f 0 at)
