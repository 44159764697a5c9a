-- A program in range, written out as bytes, is read back as itself.
use Prim.Native.Nat.{ℕ, zero, suc, ◌+◌, ◌≤◌, ◌<◌}
use native.Mathlib.Omega.{arith}
use mathlib.Core.Path.{◌≡◌, refl, ap, sym, ◌∙◌}
use mathlib.Core.List.{List, [], ◌∷◌, ◌++◌, map}
use mathlib.Core.Bool.{Bool, true, false, cond}
use mathlib.Core.Option.{none}
use lib.ListN.{length, length-append, length-map}
use lib.Dec.{eqb}
use borrow.Author.Tests.{le-leb, lt-ltb, ne_eqb}
use Rattle.commands.specs.declared.Context.TheVariants.{FirstStatement, Statements}
use Rattle.commands.specs.declared.Decoded.TheVariants.{Moved}
use Rattle.commands.specs.Commands.{all_in_range, allowed, operands_of, operand_bytes, command}
use Rattle.commands.specs.Reading.{whole}
use Rattle.programs.specs.Program.{Act, copy_template, set_template, copy_string, set_string, plug, plug_string, show, show_framed, Statement, step, stop}
use Rattle.programs.specs.ProgramReading.{Placed, statement_read, templates_there, statement_context, statements, points_there, strayed, program}
use Rattle.round_trip.specs.WrittenJob.{written_statement, written_program}
use Rattle.round_trip.specs.JobInRange.{StatementInRange, StatementsInRange, ProgramInRange}
use Rattle.round_trip.proofs.Rests.{Rest, byte_at, behind, grouped, taken, ends_at}

-- A statement may stand first and later.
either_place : (before c : ℕ) → allowed FirstStatement c ≡ true → allowed Statements c ≡ true → allowed (statement_context before) c ≡ true
either_place before c p q = by_test (eqb before 0)
  where
    by_test : (b : Bool) → allowed (cond b FirstStatement Statements) c ≡ true
    by_test true = p
    by_test false = q

-- What is read where a statement was written.
record Stated (before count : ℕ) (s : List ℕ) (at : ℕ) (t : Statement) (bytes : ℕ) : Type 0 where
  code : ℕ
  goes : command (statement_context before) s at ≡ Moved code (record { at = at + bytes })
  no_end : eqb code 0x3F ≡ false
  onward : 0 < bytes
  is : statement_read s at code ≡ t
  there : templates_there count t ≡ true

module _ (before count points : ℕ) (s : List ℕ) (at : ℕ) where
  states : {t : Statement} (c : ℕ) {o : List ℕ} → Rest s at (c ∷ o) → allowed FirstStatement c ≡ true → allowed Statements c ≡ true → eqb c 0x3F ≡ false → operand_bytes c ≤ length o
      → all_in_range (operands_of c) (c ∷ o) 1 ≡ true → statement_read s at c ≡ t → templates_there count t ≡ true → Stated before count s at t (suc (operand_bytes c))
  states c {o} r first later n fits ranges is there = record {
    code = c;
    goes = taken (statement_context before) c o r (either_place before c first later) fits ranges;
    no_end = n;
    onward = omega arith;
    is = is;
    there = there;
  }

  stated : (w : List ℕ) (t : Statement) → StatementInRange count points t → Rest s at (written_statement t ++ w) → Stated before count s at t (length (written_statement t))
  unfolding allowed operand_bytes operands_of all_in_range
  stated w (step (copy_template x x') p q) i r =
      states 0x30 r refl refl refl (omega arith) (rw (le-leb x 3 i.0.0, le-leb x' 3 i.0.1)) (rw (byte_at 1 r, byte_at 2 r, byte_at 3 r, byte_at 4 r)) refl
  stated w (step (set_template x t) p q) i r =
      states 0x31 r refl refl refl (omega arith) (rw (le-leb x 3 i.0.0)) (rw (byte_at 1 r, byte_at 2 r, byte_at 3 r, byte_at 4 r)) (le-leb t count i.0.1)
  stated w (step (copy_string y y') p q) i r =
      states 0x32 r refl refl refl (omega arith) (rw (le-leb y 3 i.0.0, le-leb y' 3 i.0.1)) (rw (byte_at 1 r, byte_at 2 r, byte_at 3 r, byte_at 4 r)) refl
  stated w (step (set_string y t) p q) i r =
      states 0x33 r refl refl refl (omega arith) (rw (le-leb y 3 i.0.0, lt-ltb t 64 i.0.1)) (rw (byte_at 1 r, byte_at 2 r, byte_at 3 r, byte_at 4 r)) refl
  stated w (step (Act.any_string y) p q) i r =
      states 0x34 r refl refl refl (omega arith) (rw (le-leb y 3 i.0)) (rw (byte_at 1 r, byte_at 2 r, byte_at 3 r)) refl
  stated w (step (plug x x' g x'') p q) i r =
      states 0x35 r refl refl refl (omega arith) (rw (le-leb x 3 i.0.0, le-leb x' 3 i.0.1, le-leb g 7 i.0.2, le-leb x'' 3 i.0.3))
      (rw (byte_at 1 r, byte_at 2 r, byte_at 3 r, byte_at 4 r, byte_at 5 r, byte_at 6 r)) refl
  stated w (step (plug_string x x' h y) p q) i r =
      states 0x36 r refl refl refl (omega arith) (rw (le-leb x 3 i.0.0, le-leb x' 3 i.0.1, le-leb h 7 i.0.2, le-leb y 3 i.0.3))
      (rw (byte_at 1 r, byte_at 2 r, byte_at 3 r, byte_at 4 r, byte_at 5 r, byte_at 6 r)) refl
  stated w (step (show x) p q) i r =
      states 0x37 r refl refl refl (omega arith) (rw (le-leb x 3 i.0)) (rw (byte_at 1 r, byte_at 2 r, byte_at 3 r)) refl
  stated w (step (show_framed x t g) p q) i r =
      states 0x39 r refl refl refl (omega arith) (rw (le-leb x 3 i.0.0, le-leb g 7 i.0.2)) (rw (byte_at 1 r, byte_at 2 r, byte_at 3 r, byte_at 4 r, byte_at 5 r))
      (le-leb t count i.0.1)
  stated w stop i r = states 0x38 r refl refl refl (omega arith) refl refl refl

-- Statements where they are written.
abbrev placed : ℕ → List Statement → List Placed
placed at [] = []
placed at (t ∷ ts) = record { at = at; statement = t } ∷ placed (at + length (written_statement t)) ts

placed_are : (at : ℕ) (ts : List Statement) → map (λ t. t.statement) (placed at ts) ≡ ts
placed_are at [] = refl
placed_are at (t ∷ ts) = ap (t ∷◌) (placed_are (at + length (written_statement t)) ts)

points_there_lem : (count points : ℕ) (t : Statement) → StatementInRange count points t → points_there points t ≡ true
points_there_lem count points (step a p q) i = rw (lt-ltb p points i.1, lt-ltb q points i.2)
points_there_lem count points stop i = refl

none_strayed : (count points at : ℕ) (ts : List Statement) → StatementsInRange count points ts → strayed points (placed at ts) ≡ none
unfolding strayed StatementsInRange
none_strayed count points at [] i = refl
none_strayed count points at (t ∷ ts) i = rw (points_there_lem count points t i.0) (none_strayed count points (at + length (written_statement t)) ts i.1)

-- `3F` may stand behind a statement.
end_goes : (before : ℕ) → 1 ≤ before → (s : List ℕ) (at : ℕ) (w : List ℕ) → Rest s at (0x3F ∷ w) → command (statement_context before) s at ≡ Moved 0x3F (record { at = at + 1 })
unfolding allowed operand_bytes operands_of all_in_range
end_goes before h s at w r =
    let stands : allowed (statement_context before) 0x3F ≡ true = rw (ne_eqb before 0 (λ e. omega arith)) in
    taken (statement_context before) 0x3F w r stands (omega arith) refl

reads_statements : (f count points before : ℕ) (ts : List Statement) → StatementsInRange count points ts → 1 ≤ before + length ts → before + length ts ≤ 32
    → (s : List ℕ) (at : ℕ) (w : List ℕ) → Rest s at (written_program ts ++ w) → length s < at + f
    → statements f count s before at ≡ whole (placed at ts) (at + length (written_program ts))
unfolding statements written_program StatementsInRange
reads_statements zero count points before ts i l m s at w r h = absurd (omega arith)
reads_statements (suc f) count points before [] i l m s at w r h = rw (end_goes before (omega arith) s at w r)
reads_statements (suc f) count points before (t ∷ ts) i l m s at w r h =
    let u = written_statement t in
    let r₁ = grouped u (written_program ts) w r in
    let d = stated before count points s at (written_program ts ++ w) t i.0 r₁ in
    rw (
      d.goes,
      d.no_end,
      d.is,
      d.there,
      lt-ltb before 32 (omega arith),
      reads_statements f count points (before + 1) ts i.1 (omega arith) (omega arith) s (at + length u) w (behind u r₁) (omega (arith, d.onward)),
    )
    (ends_at refl (omega (arith, length-append u (written_program ts))))

pub reads_program : (f count : ℕ) (ts : List Statement) → ProgramInRange count ts → (s : List ℕ) (at : ℕ) (w : List ℕ) → Rest s at (written_program ts ++ w) → length s < at + f
    → program f count s at ≡ whole ts (at + length (written_program ts))
unfolding program
reads_program f count ts i s at w r h =
    let same : length (placed at ts) ≡ length ts = sym (length-map (placed at ts) (λ t. t.statement)) ∙ ap length (placed_are at ts) in
    rw (reads_statements f count (length ts) 0 ts i.statements (omega (arith, i.least)) (omega (arith, i.most)) s at w r h, same, none_strayed count (length ts) at ts i.statements, placed_are at ts)
