use native.Mathlib.Omega.{arith}
use Rattle.memory.proofs.Laid.{writes_length}
use Rattle.records.proofs.Spelling.{spell_none, two_fit, spell_on, spell_end}
use Rattle.records.proofs.spell.Goals as goal

pub loop-b-init : goal.loop-b-init
loop-b-init c = (omega arith, spell_none c.args.bytes.now c.args.line.now)

pub put_digits-at-requires : goal.put_digits-at-requires
put_digits-at-requires c = two_fit _ _ _ _ _ c.loop-b.invariant.1 c.loop-b-test.true c.requires

pub loop-b-preserved : goal.loop-b-preserved
loop-b-preserved c = let h = c.loop-b-test.true in
    (omega (arith, h), spell_on _ _ c.loop-b.b-index c.loop-b.at c.loop-b.line c.loop-b.invariant.1 h _ _ c.put_digits-at.ensures)

pub shape_of-line : goal.shape_of-line
shape_of-line c = writes_length _ _ _ _ _ c.loop-b.invariant.1

pub returns : goal.returns
returns c = spell_end _ _ _ _ _ c.loop-b.invariant.1 c.loop-b-test.false
