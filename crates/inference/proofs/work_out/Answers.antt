-- The words of the points are cleared first.
use Prim.Native.Nat.{◌*◌}
use native.Mathlib.Omega.{arith}
use mathlib.Core.Path.{sym}
use lib.Seq.{length-take-le}
use Rattle.jobs.proofs.Tables.{gaps_table}
use Rattle.inference.proofs.Answers.{first_cleared}
use borrow.Author.Rules.{rules}
use Rattle.inference.proofs.work_out.Goals as goal

pub slice_bounds-clear-end-2 : goal.slice_bounds-clear-end-2
slice_bounds-clear-end-2 c = sym (length-take-le _ _ (search rules))

pub solve-requires : goal.solve-requires
solve-requires c = let z = first_cleared c.args.work.now c.clear.new.words (c.args.read.now.points.count * 2184) (omega (arith, c.requires)) c.clear.ensures in
    (omega (arith, z.0, c.requires), z.1)

pub returns : goal.returns
returns c = λ π T. c.solve.ensures π _ _ T (gaps_table π _ _ _ _ _ _ T c.gaps_of-gaps.result c.gaps_of-gaps.ensures)
