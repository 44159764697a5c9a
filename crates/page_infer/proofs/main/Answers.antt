-- The arrays have their lengths.
use Rattle.std.proofs.Common.{ℕ, sym}
use Rattle.std.proofs.Math.ListN.{length-replicate}
use Rattle.page_infer.proofs.main.Goals as goal

pub slice_bounds-infer_input-end-3 : goal.slice_bounds-infer_input-end-3
slice_bounds-infer_input-end-3 c = sym (length-replicate {A = ℕ} 4194304 0)
