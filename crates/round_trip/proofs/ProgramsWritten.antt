-- A program that is read is the one whose bytes were read, in range.
use Prim.Native.Nat.{ℕ, zero, suc, ◌+◌, ◌≤◌}
use native.Mathlib.Omega.{arith}
use mathlib.Core.Path.{◌≡◌, refl}
use mathlib.Core.List.{List, map}
use mathlib.Core.Bool.{Bool, true, false, cond, ◌&&◌, or-false, and-eq-true_iff}
use mathlib.Core.Option.{Option, some, none}
use lib.ListN.{length, length-map}
use lib.Dec.{leb, ltb, eqb}
use borrow.Author.Tests.{leb-true, ltb-true, eqb-true, eqb-false}
use Rattle.commands.specs.declared.Context.{Context}
use Rattle.commands.specs.declared.Context.TheVariants.{FirstStatement, Statements}
use Rattle.commands.specs.Commands.{byte, allowed, operands_of, operand_bytes}
use Rattle.commands.specs.Reading.{whole}
use Rattle.programs.specs.Program.{Statement, step, stop}
use Rattle.programs.specs.ProgramReading.{Placed, statement_read, templates_there, most_points, statement_context, statements, points_there, strayed, unless_strayed, program}
use Rattle.agreement.proofs.Readings.{Gives, gives, refuses, runs_out, gives_command, gives_when, gives_then, Taken}
use Rattle.round_trip.specs.WrittenJob.{written_statement, written_program}
use Rattle.round_trip.specs.JobInRange.{ActInRange, StatementInRange, StatementsInRange, ProgramInRange}
use Rattle.round_trip.specs.Exact.{Span}
use Rattle.round_trip.proofs.Spans.{then, taken_span, taken_fits, one_of, ◌or◌, done}

-- A statement but for its next points, which are tested at `3F`.
abbrev DoesInRange : ℕ → Statement → Type 0
DoesInRange count (step a p q) = ActInRange count a
DoesInRange count stop = Unit {0}

with_points : (count points : ℕ) (t : Statement) → DoesInRange count t → points_there points t ≡ true → StatementInRange count points t
with_points count points (step a p q) i e = let both = (and-eq-true_iff (ltb p points) (ltb q points)).0 e in (i, ltb-true p points both.0, ltb-true q points both.1)
with_points count points stop i e = tt

record StatementRead (s : List ℕ) (count at : ℕ) (t : Statement) (next : ℕ) : Type 0 where
  span : Span s at (written_statement t) next
  does : DoesInRange count t

module _ (s : List ℕ) (count at next : ℕ) (x : Context) where
  statement_read_lem : (code : ℕ) → 0x30 ≤ code → code ≤ 0x39 → Taken x s at code next → templates_there count (statement_read s at code) ≡ true
      → StatementRead s count at (statement_read s at code) next
  unfolding operands_of operand_bytes
  statement_read_lem code low high t there =
      one_of {low = 0x30} {n = 10} (
      (λ e. let t' = rw e at t in rw e (record { span = taken_span t'; does = omega (arith, taken_fits t') }))
      or (λ e. let t' = rw e at t in
      let h : byte s (at + 2) ≤ count = leb-true (byte s (at + 2)) count (rw e at there) in
      rw e (record { span = taken_span t'; does = omega (arith, taken_fits t') }))
      or (λ e. let t' = rw e at t in rw e (record { span = taken_span t'; does = omega (arith, taken_fits t') }))
      or (λ e. let t' = rw e at t in rw e (record { span = taken_span t'; does = omega (arith, taken_fits t') }))
      or (λ e. let t' = rw e at t in rw e (record { span = taken_span t'; does = omega (arith, taken_fits t') }))
      or (λ e. let t' = rw e at t in rw e (record { span = taken_span t'; does = omega (arith, taken_fits t') }))
      or (λ e. let t' = rw e at t in rw e (record { span = taken_span t'; does = omega (arith, taken_fits t') }))
      or (λ e. let t' = rw e at t in rw e (record { span = taken_span t'; does = omega (arith, taken_fits t') }))
      or (λ e. rw e (record { span = taken_span (rw e at t); does = tt }))
      or (λ e. let t' = rw e at t in
      let h : byte s (at + 2) ≤ count = leb-true (byte s (at + 2)) count (rw e at there) in
      rw e (record { span = taken_span t'; does = omega (arith, taken_fits t') }))
      or done
      )
      low (omega arith)

-- `3F` may not stand first; any other command that may stand is a statement.
some_before : (before : ℕ) → allowed (statement_context before) 0x3F ≡ true → 1 ≤ before
unfolding allowed
some_before before e = by_test (eqb before 0) refl e
  where
    by_test : (b : Bool) → eqb before 0 ≡ b → allowed (cond b FirstStatement Statements) 0x3F ≡ true → 1 ≤ before
    by_test true z e = absurd (let f : ◌≡◌ {A = ℕ} 0 1 = cc in omega arith)
    by_test false z e = omega (arith, eqb-false before 0 z)

is_statement : (before code : ℕ) → allowed (statement_context before) code ≡ true → eqb code 0x3F ≡ false → (0x30 ≤ code) × (code ≤ 0x39)
unfolding allowed
is_statement before code e n =
    let both = (and-eq-true_iff (leb 0x30 code) (leb code 0x39)).0 (by_test (eqb before 0) e) in
    (leb-true 0x30 code both.0, leb-true code 0x39 both.1)
  where
    by_test : (b : Bool) → allowed (cond b FirstStatement Statements) code ≡ true → (leb 0x30 code && leb code 0x39) ≡ true
    by_test true e = e
    by_test false e = rw (n, or-false) at e

not_strayed : (there : Bool) (at : ℕ) (o : Option ℕ) → cond there o (some at) ≡ none → (there ≡ true) × (o ≡ none)
not_strayed true at o e = (refl, e)
not_strayed false at o e = absurd (let f : ◌≡◌ {A = ℕ} 0 1 = cc in omega arith)

-- Statements that were read after `before` others, up to `3F`.
record StatementsRead (s : List ℕ) (count before at : ℕ) (ts : List Placed) (end : ℕ) : Type 0 where
  span : Span s at (written_program (map (λ t. t.statement) ts)) end
  is_in_range : (points : ℕ) → strayed points ts ≡ none → StatementsInRange count points (map (λ t. t.statement) ts)
  least : 1 ≤ before + length ts
  most : before + length ts ≤ 32

module _ (count : ℕ) (s : List ℕ) where
  statements_written : (f before at : ℕ) → before ≤ 32 → Gives (Unit {0}) (StatementsRead s count before at) (statements f count s before at)
  unfolding statements strayed written_program StatementsInRange operands_of operand_bytes
  statements_written zero before at h = runs_out tt
  statements_written (suc f) before at h = gives_command (statement_context before) s at λ code next t. gives_when (eqb code 0x3F)
      (λ _ c. let t' = rw (eqb-true code 0x3F c) at t in gives (record { span = taken_span t'; is_in_range = λ points e. tt; least = omega (arith, some_before before t'.may); most = omega arith }))
      (λ _ c. gives_when (templates_there count (statement_read s at code))
      (λ _ there. gives_when (ltb before most_points)
      (λ _ l. gives_then (statements_written f (before + 1) next (omega (arith, ltb-true before 32 l))) λ ts end n.
      let is = is_statement before code t.may c in
      let m = statement_read_lem s count at next (statement_context before) code is.0 is.1 t there in
      gives (record {
        span = then m.span n.span;
        is_in_range = λ points e.
            let both = not_strayed (points_there points (statement_read s at code)) at (strayed points ts) e in
            (with_points count points (statement_read s at code) m.does both.0, n.is_in_range points both.1);
        least = omega arith;
        most = omega (arith, n.most);
      }))
      (λ _ _. refuses))
      (λ _ _. refuses))

  unless_strayed_lem : {P : List Statement → ℕ → Type 0} (o : Option ℕ) (ts : List Statement) (end : ℕ) → (o ≡ none → P ts end)
      → Gives (Unit {0}) P (unless_strayed o (whole ts end))
  unless_strayed_lem none ts end h = gives (h refl)
  unless_strayed_lem (some at) ts end h = refuses

  pub program_written : (f at : ℕ) → Gives (Unit {0}) (λ ts end. Span s at (written_program ts) end × ProgramInRange count ts) (program f count s at)
  unfolding program
  program_written f at = gives_then (statements_written f 0 at (omega arith)) λ ts end m.
      let same : length (map (λ t. t.statement) ts) ≡ length ts = length-map ts (λ t. t.statement) in
      unless_strayed_lem (strayed (length ts) ts) (map (λ t. t.statement) ts) end λ e.
      (m.span, record { statements = rw same (m.is_in_range (length ts) e); least = omega (arith, m.least); most = omega (arith, m.most) })
