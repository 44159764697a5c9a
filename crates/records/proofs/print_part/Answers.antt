-- The digits lie within the line.
use Rattle.std.proofs.Common.{sym, rules}
use Rattle.std.proofs.Math.Seq.{length-take-le}
use Rattle.records.proofs.Spelling.{spelt_within}
use Rattle.records.proofs.print_part.Goals as goal

pub slice_bounds-line-end : goal.slice_bounds-line-end
slice_bounds-line-end c = spelt_within _ _ _ _ (search rules) c.spell-n.ensures

pub slice_bounds-write_all-end : goal.slice_bounds-write_all-end
slice_bounds-write_all-end c = sym (length-take-le _ _ (spelt_within _ _ _ _ (search rules) c.spell-n.ensures))
