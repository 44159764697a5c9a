-- The digits of the bytes passed are written.
use Prim.Native.Nat.{◌≤◌}
use lib.ListN.{length, take}
use Rattle.memory.specs.Inner.Laid.{Writes}
use Rattle.records.specs.Spelling.{spelt}
use Rattle.records.proofs.spell.Given as goal

abbrev pub invariant-loop-b : goal.invariant-loop-b
invariant-loop-b l = (l.b-index ≤ length l.bytes) × Writes l.initial.line 0 (spelt (take l.b-index l.bytes)) l.at l.line
