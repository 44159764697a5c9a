-- The variables that a program names are 0 to 3 wherever the program can be read.
use Prim.Native.Nat.{ℕ, zero, suc, ◌+◌, ◌<◌, ◌≤◌}
use mathlib.Core.Path.{◌≡◌, refl, sym, subst}
use mathlib.Core.List.{List, [], ◌∷◌, map}
use mathlib.Core.Bool.{Bool, true, false, cond, ◌&&◌, ◌||◌, false≢true}
use mathlib.Core.Option.{Option, some, none}
use mathlib.Core.Logic.{◌⊎◌, inl, inr, ⊎_elim}
use native.Mathlib.Omega.{arith}
use borrow.Author.Tests.{eqb-true, leb-true}
use lib.ListN.{length}
use lib.Dec.{eqb, leb, ltb}
use Rattle.verdicts.specs.declared.Form.TheVariants.{TooMany, Missing}
use Rattle.commands.specs.Commands.{byte, operands_of, all_in_range}
use Rattle.commands.specs.Reading.{Read, whole, refused, and_then, when, enough}
use Rattle.commands.proofs.Laws.{moved, and_then_whole, on_command_whole, when_whole}
use Rattle.programs.specs.Program.{copy_template, set_template, copy_string, set_string, any_string, plug, plug_string, show, show_framed, Statement, step, stop, Variable, template_variable, string_variable, statement_names, named}
use Rattle.programs.specs.ProgramReading.{Placed, statement_of, statement_read, statement_context, statements, strayed, unless_strayed, program, templates_there, most_points}
use Rattle.sets.proofs.Booleans.{or_cases, and_left, and_right}
use Rattle.jobs.specs.Job.{Job, job}
use Rattle.jobs.proofs.Tables.{job_parts}
use Rattle.soundness.proofs.Run.{InRange}

-- A variable's number: which of the two sorts does not matter here.
abbrev number : Variable → ℕ
number (template_variable x) = x
number (string_variable y) = y

-- A variable that is one of a statement's operands is in range with it.
same : (v n : ℕ) → eqb v n ≡ true → leb n 3 ≡ true → v < 4
same v n e l =
    let q : v ≡ n = eqb-true v n e in
    let m : n ≤ 3 = leb-true n 3 l in
    omega arith

either_of : (v n m : ℕ) → (eqb v n || eqb v m) ≡ true → leb n 3 ≡ true → leb m 3 ≡ true → v < 4
either_of v n m e a b = ⊎_elim (λ (q : eqb v n ≡ true). same v n q a) (λ (q : eqb v m ≡ true). same v m q b) (or_cases (eqb v n) (eqb v m) e)

abbrev Bounded : Statement → Type 0
Bounded t = (v : Variable) → statement_names t v ≡ true → number v < 4

one_of : (P : Statement → Type 0) (b : Bool) (t u : Statement) → (b ≡ true → P t) → P u → P (cond b t u)
one_of P true t u f g = f refl
one_of P false t u f g = g

module _ (s : List ℕ) (at : ℕ) where
  abbrev o : ℕ → ℕ
  o i = byte s (at + i)

  -- The operands of a command that has been read, from its ranges: the second and the fourth.
  operand_2 : (rest : Bool) → (leb (o 1) 3 && (leb (byte s (at + 1 + 1)) 3 && rest)) ≡ true → leb (o 2) 3 ≡ true
  operand_2 rest e =
      let q : at + 1 + 1 ≡ at + 2 = omega arith in
      rw q at (and_left (leb (byte s (at + 1 + 1)) 3) rest (and_right (leb (o 1) 3) (leb (byte s (at + 1 + 1)) 3 && rest) e))

  operand_4 : (second third rest : Bool)
      → (leb (o 1) 3 && (second && (third && (leb (byte s (at + 1 + 1 + 1 + 1)) 3 && rest)))) ≡ true → leb (o 4) 3 ≡ true
  operand_4 second third rest e =
      let q : at + 1 + 1 + 1 + 1 ≡ at + 4 = omega arith in
      let last = leb (byte s (at + 1 + 1 + 1 + 1)) 3 in
      rw q at (and_left last rest (and_right third (last && rest)
      (and_right second (third && (last && rest)) (and_right (leb (o 1) 3) (second && (third && (last && rest))) e))))

  module _ (code : ℕ) (r : all_in_range (operands_of code) s (at + 1) ≡ true) where
    -- The ranges of a command whose first byte is known.
    ranges : (k : ℕ) → eqb code k ≡ true → all_in_range (operands_of k) s (at + 1) ≡ true
    ranges k e = subst (λ (c : ℕ). all_in_range (operands_of c) s (at + 1) ≡ true) (eqb-true code k e) r

    stop_bounded : Bounded stop
    stop_bounded v e = absurd (false≢true e)

    show_bounded : all_in_range (operands_of 0x37) s (at + 1) ≡ true → Bounded (step (show (o 1)) (o 2) (o 3))
    unfolding all_in_range operands_of
    show_bounded h (template_variable x) e = same x (o 1) e (and_left _ true h)
    show_bounded h (string_variable y) e = absurd (false≢true e)

    show_framed_bounded : all_in_range (operands_of 0x39) s (at + 1) ≡ true → Bounded (step (show_framed (o 1) (o 2) (o 3)) (o 4) (o 5))
    unfolding all_in_range operands_of
    show_framed_bounded h (template_variable x) e = same x (o 1) e (and_left _ _ h)
    show_framed_bounded h (string_variable y) e = absurd (false≢true e)

    copy_template_bounded : all_in_range (operands_of 0x30) s (at + 1) ≡ true → Bounded (step (copy_template (o 1) (o 2)) (o 3) (o 4))
    unfolding all_in_range operands_of
    copy_template_bounded h (template_variable x) e = either_of x (o 1) (o 2) e (and_left _ _ h) (operand_2 true h)
    copy_template_bounded h (string_variable y) e = absurd (false≢true e)

    set_template_bounded : all_in_range (operands_of 0x31) s (at + 1) ≡ true → Bounded (step (set_template (o 1) (o 2)) (o 3) (o 4))
    unfolding all_in_range operands_of
    set_template_bounded h (template_variable x) e = same x (o 1) e (and_left _ _ h)
    set_template_bounded h (string_variable y) e = absurd (false≢true e)

    copy_string_bounded : all_in_range (operands_of 0x32) s (at + 1) ≡ true → Bounded (step (copy_string (o 1) (o 2)) (o 3) (o 4))
    unfolding all_in_range operands_of
    copy_string_bounded h (template_variable x) e = absurd (false≢true e)
    copy_string_bounded h (string_variable y) e = either_of y (o 1) (o 2) e (and_left _ _ h) (operand_2 true h)

    set_string_bounded : all_in_range (operands_of 0x33) s (at + 1) ≡ true → Bounded (step (set_string (o 1) (o 2)) (o 3) (o 4))
    unfolding all_in_range operands_of
    set_string_bounded h (template_variable x) e = absurd (false≢true e)
    set_string_bounded h (string_variable y) e = same y (o 1) e (and_left _ _ h)

    any_string_bounded : all_in_range (operands_of 0x34) s (at + 1) ≡ true → Bounded (step (any_string (o 1)) (o 2) (o 3))
    unfolding all_in_range operands_of
    any_string_bounded h (template_variable x) e = absurd (false≢true e)
    any_string_bounded h (string_variable y) e = same y (o 1) e (and_left _ true h)

    plug_bounded : all_in_range (operands_of 0x35) s (at + 1) ≡ true → Bounded (step (plug (o 1) (o 2) (o 3) (o 4)) (o 5) (o 6))
    unfolding all_in_range operands_of
    plug_bounded h (template_variable x) e = ⊎_elim
        (λ (q : (eqb x (o 1) || eqb x (o 2)) ≡ true). either_of x (o 1) (o 2) q (and_left _ _ h) (operand_2 _ h))
        (λ (q : eqb x (o 4) ≡ true). same x (o 4) q (operand_4 (leb (byte s (at + 1 + 1)) 3) (leb (byte s (at + 1 + 1 + 1)) 7) true h))
        (or_cases (eqb x (o 1) || eqb x (o 2)) (eqb x (o 4)) e)
    plug_bounded h (string_variable y) e = absurd (false≢true e)

    plug_string_bounded : all_in_range (operands_of 0x36) s (at + 1) ≡ true → Bounded (step (plug_string (o 1) (o 2) (o 3) (o 4)) (o 5) (o 6))
    unfolding all_in_range operands_of
    plug_string_bounded h (template_variable x) e = either_of x (o 1) (o 2) e (and_left _ _ h) (operand_2 _ h)
    plug_string_bounded h (string_variable y) e = same y (o 4) e (operand_4 (leb (byte s (at + 1 + 1)) 3) (leb (byte s (at + 1 + 1 + 1)) 7) true h)

    statement_bounded : Bounded (statement_of code o)
    statement_bounded =
        one_of Bounded (eqb code 0x30) _ _ (λ e. copy_template_bounded (ranges 0x30 e))
        (one_of Bounded (eqb code 0x31) _ _ (λ e. set_template_bounded (ranges 0x31 e))
        (one_of Bounded (eqb code 0x32) _ _ (λ e. copy_string_bounded (ranges 0x32 e))
        (one_of Bounded (eqb code 0x33) _ _ (λ e. set_string_bounded (ranges 0x33 e))
        (one_of Bounded (eqb code 0x34) _ _ (λ e. any_string_bounded (ranges 0x34 e))
        (one_of Bounded (eqb code 0x35) _ _ (λ e. plug_bounded (ranges 0x35 e))
        (one_of Bounded (eqb code 0x36) _ _ (λ e. plug_string_bounded (ranges 0x36 e))
        (one_of Bounded (eqb code 0x37) _ _ (λ e. show_bounded (ranges 0x37 e))
        (one_of Bounded (eqb code 0x39) _ _ (λ e. show_framed_bounded (ranges 0x39 e)) stop_bounded))))))))

-- Every statement that is read names variables in range, and so does the program.
AllBounded : List Statement → Type 0
AllBounded ts = (v : Variable) → named ts v ≡ true → number v < 4

none_bounded : AllBounded []
unfolding AllBounded named
none_bounded v e = absurd (false≢true e)

more_bounded : (t : Statement) (ts : List Statement) → Bounded t → AllBounded ts → AllBounded (t ∷ ts)
unfolding AllBounded named
more_bounded t ts b bs v e = ⊎_elim (λ (q : statement_names t v ≡ true). b v q) (λ (q : named ts v ≡ true). bs v q)
    (or_cases (statement_names t v) (named ts v) e)

abbrev bare : List Placed → List Statement
bare ts = map (λ t. t.statement) ts

ended : {ts : List Placed} {end next : ℕ} → whole [] next ≡ whole ts end → AllBounded (bare ts)
ended {ts} e = let q : [] ≡ ts = cc in subst (λ (l : List Placed). AllBounded (bare l)) q none_bounded

when_cases : {A : Type 0} (t : Bool) (yes' no' : Unit {0} → Read A) (a : A) (end : ℕ) → when t yes' no' ≡ whole a end
    → (yes' tt ≡ whole a end) ⊎ (no' tt ≡ whole a end)
when_cases true yes' no' a end e = inl e
when_cases false yes' no' a end e = inr e

module _ (f count : ℕ) (s : List ℕ) (before at : ℕ) (ts : List Placed) (end : ℕ)
    (rest : (next : ℕ) (us : List Placed) (end' : ℕ) → statements f count s (before + 1) next ≡ whole us end' → AllBounded (bare us)) where
  abbrev here : ℕ → Placed
  here code = record { at = at; statement = statement_read s at code }

  abbrev and_rest : ℕ → List Placed → ℕ → Read (List Placed)
  and_rest code us end' = whole (here code ∷ us) end'

  abbrev counted : ℕ → ℕ → Read (List Placed)
  counted code next = when (ltb before most_points) (λ _. and_then (statements f count s (before + 1) next) (and_rest code)) (λ _. refused TooMany at)

  statement_then : (code next : ℕ) → all_in_range (operands_of code) s (at + 1) ≡ true
      → when (templates_there count (statement_read s at code)) (λ _. counted code next) (λ _. refused Missing at) ≡ whole ts end
      → AllBounded (bare ts)
  statement_then code next r e =
      let q = when_whole (templates_there count (statement_read s at code)) (λ _. counted code next) Missing at ts end e in
      let q' = when_whole (ltb before most_points) (λ _. and_then (statements f count s (before + 1) next) (and_rest code)) TooMany at ts end q.1 in
      let q'' = and_then_whole (statements f count s (before + 1) next) (and_rest code) ts end q'.1 in
      let u : here code ∷ q''.0 ≡ ts = cc q''.3 in
      subst (λ (l : List Placed). AllBounded (bare l)) u
      (more_bounded (statement_read s at code) (bare q''.0) (statement_bounded s at code r) (rest next q''.0 q''.1 q''.2))

statements_bounded : (f count : ℕ) (s : List ℕ) (before at : ℕ) (ts : List Placed) (end : ℕ) → statements f count s before at ≡ whole ts end → AllBounded (bare ts)
unfolding statements
statements_bounded zero count s before at ts end e = absurd (let z : ◌≡◌ {A = ℕ} 0 1 = cc in omega arith)
statements_bounded (suc f) count s before at ts end e =
    let m = on_command_whole (statement_context before) s at _ ts end e in
    let over = moved (statement_context before) s at m.0 m.1 m.2 in
    ⊎_elim (λ q. ended q)
    (λ q. statement_then f count s before at ts end (λ next us end' e'. statements_bounded f count s (before + 1) next us end' e') m.0 m.1.at
    (subst (λ (c : ℕ). all_in_range (operands_of c) s (at + 1) ≡ true) (sym over.first) over.ranges) q)
    (when_cases (eqb m.0 0x3F) _ _ ts end m.3)

is_in_range : {ts : List Statement} → AllBounded ts → InRange ts
unfolding AllBounded
is_in_range b = record { template = λ x e. b (template_variable x) e; string = λ y e. b (string_variable y) e }

not_strayed : (o : Option ℕ) (us : List Statement) (next : ℕ) (ts : List Statement) (end : ℕ) → unless_strayed o (whole us next) ≡ whole ts end → AllBounded us → InRange ts
not_strayed none us next ts end e b = let q : us ≡ ts = cc in is_in_range (subst AllBounded q b)
not_strayed (some at) us next ts end e b = absurd (let z : ◌≡◌ {A = ℕ} 0 1 = cc in omega arith)

-- The program that is read names variables in range.
program_in_range : (f count : ℕ) (s : List ℕ) (at : ℕ) (ts : List Statement) (end : ℕ) → program f count s at ≡ whole ts end → InRange ts
unfolding program
program_in_range f count s at ts end e =
    let q = and_then_whole (statements f count s 0 at) (λ us end'. unless_strayed (strayed (length us) us) (whole (bare us) end')) ts end e in
    let b = statements_bounded f count s 0 at q.0 q.1 q.2 in
    not_strayed (strayed (length q.0) q.0) (bare q.0) q.1 ts end q.3 b

-- So does the program of a job that reads.
pub job_in_range : (s : List ℕ) (j : Job) (end : ℕ) → job s ≡ whole j end → InRange j.script.program
job_in_range s j end e =
    let parts = job_parts s j end e in
    program_in_range (enough s) (length j.script.templates) s parts.second j.script.program parts.third parts.program_reads
