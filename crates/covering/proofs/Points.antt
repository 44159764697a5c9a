-- The steps of a point: none at `38`, else one to each of two next points.
use Prim.Native.Nat.{ℕ, ◌<◌}
use mathlib.Core.Path.{◌≡◌, refl, sym, ◌∙◌}
use mathlib.Core.List.{List}
use mathlib.Core.Bool.{Bool, true, false, cond, ◌&&◌, false≢true}
use native.Mathlib.Omega.{arith}
use lib.ListN.{get_or}
use lib.Dec.{ltb}
use borrow.Author.Tests.{ltb-true}
use Rattle.std.specs.Prelude.{Result, Ok, Err}
use Rattle.verdicts.specs.declared.Cover.{Cover}
use Rattle.verdicts.specs.declared.Cover.TheVariants.{Step}
use Rattle.commands.specs.declared.Position.{Position}
use Rattle.programs.specs.declared.Act as Acts
use Rattle.programs.specs.declared.Statement as Statements
use Rattle.programs.specs.declared.Statement.TheVariants.{Stop}
use Rattle.programs.specs.declared.Statement.TheVariants as Variants
use Rattle.programs.specs.Program.{step, stop, statement_at}
use Rattle.programs.specs.Inner.Promises.{as_act, as_statement, statement_here}
use Rattle.programs.proofs.Decoding.{statement_fits}
use Rattle.summaries.specs.ProposalReading.{variable_of}
use Rattle.summaries.specs.Summaries.{entries}
use Rattle.summaries.specs.Covering.{StepCovered}
use Rattle.jobs.specs.Job.{Job}
use Rattle.jobs.specs.JobVerdict.{StepHolds, next_of}
use Rattle.jobs.specs.Inner.ScriptTables.{NamesAre, StatementStands}
use Rattle.sets.proofs.Booleans.{and_left, and_right}
use Rattle.pages.specs.Inner.Gaps.{GapsTable}
use Rattle.covering.specs.Inner.Tables.{Tables, PointAt, StepAt}
use Rattle.covering.specs.Inner.Promises.{RefusesLowest, PointCovers}

module _ (j : Job) (s : List ℕ) (count : ℕ) (starts : List ℕ) (points : ℕ) (places : List ℕ) (names : ℕ) (heads : List ℕ)
    (T : Tables j s count starts points places names heads) (gaps : List ℕ) (G : GapsTable gaps j.script.templates)
    (p place : ℕ) (f : p < points) (place_is : place ≡ get_or places p 0) (here : Position) (here_is : here ≡ record { at = place })
    (t : Statements.Statement) (found : as_statement t ≡ statement_here s here.at) where
  t_is : as_statement t ≡ statement_here s place
  t_is = rw here_is at found

  stands : StatementStands s count place (statement_at j.script.program p)
  stands = rw place_is (T.of_script.statement p f)

  -- `38` has no step.
  pub stops : t ≡ Stop → PointCovers j.script (entries j.proposal) p (Ok tt)
  stops e b v l =
      let is : statement_at j.script.program p ≡ stop = sym stands.is ∙ (sym t_is ∙ rw e) in
      rw is tt

  -- A statement with an act and two next points.
  module _ (a : Acts.Act) (k k' : ℕ) (e : t ≡ Variants.Step a k k') where
    is : statement_at j.script.program p ≡ step (as_act a) k k'
    is = sym stands.is ∙ (sym t_is ∙ rw e)

    abbrev pub next : Bool → ℕ
    next b = cond b k' k

    there : (ltb k points && ltb k' points) ≡ true
    there = rw is at (T.of_script.points_there_lem p f)

    next_there : (b : Bool) → next b < points
    next_there true = ltb-true k' points (and_right (ltb k points) _ there)
    next_there false = ltb-true k points (and_left _ _ there)

    point_at : PointAt j s gaps heads p (as_act a)
    point_at =
        let here : statement_here s place ≡ step (as_act a) k k' = stands.is ∙ is in
        record {
          fits = rw here at (statement_fits s place stands.ranges);
          template_there = rw (T.of_script.count_is, is) at stands.template_there;
          few = rw (← T.of_script.count_is) T.of_script.few_templates;
          gaps_are = G;
          low = let l = T.of_script.few_points in omega arith;
          entry = T.entry p (let l = T.of_script.few_points in omega arith);
        }

    -- The step to the next point of a side.
    pub step_at : (b : Bool) → StepAt j s gaps heads p (next b) (as_act a)
    step_at b = record {
      point = point_at;
      next_low = let l = T.of_script.few_points in let h = next_there b in omega arith;
      next_entry = T.entry (next b) (let l = T.of_script.few_points in let h = next_there b in omega arith);
    }

    abbrev pub Compared : ℕ → ℕ → Type 0
    Compared n v = StepCovered j.script.templates j.script.program (entries j.proposal) p (as_act a) n (variable_of v)

    -- What is compared on a side is what document 01 compares.
    holds : (b : Bool) (v : ℕ) → Compared (next b) v → StepHolds j.script (entries j.proposal) p b v
    holds b v h = rw is h

    held : (b : Bool) (v : ℕ) → StepHolds j.script (entries j.proposal) p b v → Compared (next b) v
    held b v h = rw is at h

    next_is : (b : Bool) → next b ≡ next_of (statement_at j.script.program p) b
    next_is b = rw is

    -- The step to the next point of a side is compared.
    abbrev pub Refused : Bool → Result (Unit {0}) Cover → Type 0
    Refused b r = StepAt j s gaps heads p (next b) (as_act a) → NamesAre j.script names → RefusesLowest (Step p (next b)) (Compared (next b)) r

    pub all_hold : (b : Bool) → Refused b (Ok tt) → (v : ℕ) → v < 8 → StepHolds j.script (entries j.proposal) p b v
    all_hold b told v l = holds b v ((told (step_at b) T.of_script.names_are).below v l)

    fails : (b : Bool) → (b ≡ true → (v : ℕ) → v < 8 → StepHolds j.script (entries j.proposal) p false v) → (c : Cover) → Refused b (Err c) → PointCovers j.script (entries j.proposal) p (Err c)
    fails b sides c told =
        let (v, (is, (low, L))) = told (step_at b) T.of_script.names_are in
        rw is (record {
          point = refl;
          second = b;
          next_is = next_is b;
          variable = low;
          fails = λ h. L.fails low (held b v h);
          sides = sides;
          variables = λ u h. holds b u (L.below u h);
        })

    pub first_fails : (c : Cover) → Refused false (Err c) → PointCovers j.script (entries j.proposal) p (Err c)
    first_fails = fails false (λ q. absurd (false≢true q))

    module _ (first_holds : Refused false (Ok tt)) where
      pub same_sides : k' ≡ k → PointCovers j.script (entries j.proposal) p (Ok tt)
      same_sides q false u l = all_hold false first_holds u l
      same_sides q true u l = rw is (rw q ((first_holds (step_at false) T.of_script.names_are).below u l))

      both : Refused true (Ok tt) → PointCovers j.script (entries j.proposal) p (Ok tt)
      both told false v l = all_hold false first_holds v l
      both told true v l = all_hold true told v l

      pub second_told : (r : Result (Unit {0}) Cover) → Refused true r → PointCovers j.script (entries j.proposal) p r
      second_told (Ok u) told = both told
      second_told (Err c) told = fails true (λ q. all_hold false first_holds) c told
