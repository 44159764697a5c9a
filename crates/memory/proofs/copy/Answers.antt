use native.Mathlib.Omega.{arith}
use Rattle.memory.proofs.Laid.{copied_none, copied_more, copied_all}
use Rattle.memory.proofs.copy.Goals as goal

pub loop-i-init : goal.loop-i-init
loop-i-init c = copied_none c.args.out.now c.args.from c.args.at c.args.count

pub loop-i-preserved : goal.loop-i-preserved
loop-i-preserved c =
    let args = c.args in
    copied_more args.out.now args.from args.at args.count c.requires.0 c.requires.1 c.loop-i.i c.loop-i.out c.loop-i-test.true c.loop-i.invariant

pub returns : goal.returns
returns c =
    let args = c.args in
    copied_all args.out.now args.from args.at args.count c.requires.0 c.requires.1 c.loop-i.i c.loop-i.out (omega arith) c.loop-i.invariant
