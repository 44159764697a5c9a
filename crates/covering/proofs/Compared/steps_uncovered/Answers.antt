use Prim.Native.Nat.{ℕ, ◌%◌, ◌<◌}
use lib.ListN.{get_or}
use mathlib.Core.Path.{◌≡◌, refl}
use mathlib.Core.List.{List}
use native.Mathlib.Omega.{arith}
use Rattle.std.specs.Prelude.{Result, Ok, Err}
use Rattle.std.proofs.lemmas.Result.{err_from_is_err_and}
use Rattle.verdicts.specs.declared.Cover.{Cover}
use Rattle.summaries.specs.Summaries.{entries}
use Rattle.jobs.specs.Job.{Job}
use Rattle.pages.specs.Inner.Gaps.{GapsTable}
use Rattle.covering.specs.Inner.Tables.{Tables}
use Rattle.covering.specs.Inner.Promises.{PointCovers}
use Rattle.covering.proofs.Whole.{steps_fail, steps_go, steps_end}
use Rattle.covering.proofs.Compared.steps_uncovered.Goals as goal

-- What was found at the point.
found : (j : Job) (s gaps heads : List ℕ) (names : ℕ) (places : List ℕ) (points p : ℕ) (r : Result (Unit {0}) Cover) (count : ℕ) (starts : List ℕ)
    → ((j : Job) (count : ℕ) (starts : List ℕ) (points : ℕ) (places' : List ℕ) → Tables j s count starts points places' names heads → GapsTable gaps j.script.templates → p < points → get_or places (p % 32) 0 ≡ get_or places' p 0 → PointCovers j.script (entries j.proposal) p r)
    → p < points → Tables j s count starts points places names heads → GapsTable gaps j.script.templates → PointCovers j.script (entries j.proposal) p r
found j s gaps heads names places points p r count starts told h T G =
    let l = T.of_script.few_points in
    let q : p % 32 ≡ p = omega arith in
    told j count starts points places T G h (rw q)

pub loop-p-init : goal.loop-p-init
loop-p-init c = record { covered = λ j count starts T G q h. absurd (omega arith); empty = c.requires }

pub returns-in_err-point_uncovered : goal.returns-in_err-point_uncovered
returns-in_err-point_uncovered c =
    let p = err_from_is_err_and c.from_residual.result c.from_residual.ensures.1 in
    record {
      covers = λ j count starts T G. rw (p.1, p.2)
          (steps_fail j.script (entries j.proposal) c.loop-p.p (Err c.in_err-point_uncovered.field-0.0) c.in_err-point_uncovered.field-0.0 refl (found j c.args.self.now.s.now c.args.self.now.gaps.now c.args.self.now.heads.now c.args.self.now.points.now.named c.args.self.now.points.now.places c.args.self.now.points.now.count c.loop-p.p (Err c.in_err-point_uncovered.field-0.0) count starts c.in_err-point_uncovered.ensures.covers c.loop-p-test.true T G) (c.loop-p.invariant.covered j count starts T G));
      empty = c.in_err-point_uncovered.ensures.empty;
    }

pub loop-p-preserved : goal.loop-p-preserved
loop-p-preserved c = record {
  covered = λ j count starts T G. steps_go j.script (entries j.proposal) c.loop-p.p (Ok tt) refl (found j c.args.self.now.s.now c.args.self.now.gaps.now c.args.self.now.heads.now c.args.self.now.points.now.named c.args.self.now.points.now.places c.args.self.now.points.now.count c.loop-p.p (Ok tt) count starts c.in_ok-point_uncovered.ensures.covers c.loop-p-test.true T G) (c.loop-p.invariant.covered j count starts T G);
  empty = c.in_ok-point_uncovered.ensures.empty;
}

pub returns : goal.returns
returns c = record {
  covers = λ j count starts T G. steps_end j.script (entries j.proposal) c.args.self.now.points.now.count c.loop-p.p T.of_script.points_are c.loop-p-test.false (c.loop-p.invariant.covered j count starts T G);
  empty = c.loop-p.invariant.empty;
}
