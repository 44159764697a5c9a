-- The closure of the template names the contents.
use mathlib.Core.Path.{◌∙◌}
use mathlib.Core.Bool.{◌&&◌, or-false}
use lib.Dec.{eqb}
use Rattle.sets.specs.Sets.{member}
use Rattle.sets.proofs.Laws.{member_zero}
use Rattle.reach.proofs.contents_at.Goals as goal

pub returns : goal.returns
returns c = let a = c.args in
    record {
      start = c.with_if-start.result;
      led = c.closure.result;
      is_start = λ k. c.with_if-start.ensures k ∙ rw (c.has.ensures, member_zero k) (or-false (eqb k a.n && member a.yields a.n));
      closure = c.closure.ensures;
      united = c.union_of.ensures;
    }
