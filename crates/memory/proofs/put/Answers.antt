-- The part from the offset on is what was passed.
use mathlib.Core.Path.{refl, ap, ◌∙◌}
use native.Mathlib.Omega.{arith}
use lib.ListN.{length}
use lib.Seq.{take_all}
use Rattle.std.proofs.lemmas.Slice.{put_mid-paste}
use Rattle.memory.specs.Inner.Laid.{laid}
use Rattle.memory.proofs.Laid.{laid_paste}
use Rattle.memory.proofs.put.Goals as goal

pub returns : goal.returns
returns c = let out = c.args.out.now in
    let bs = c.args.bytes.now in
    let at = c.args.at in (
      refl,
      put_mid-paste at _ out _ bs (length bs) c.copy_from_slice.ensures.after (omega arith) refl
          ∙ laid_paste out at bs (length bs) (omega arith) (omega arith)
          ∙ ap (laid out at) (take_all (length bs) bs (omega arith)),
    )
