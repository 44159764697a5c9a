-- What was read so far and what reads on from here make up the whole; each item moves the position on.
use Prim.Native.Nat.{◌-◌}
use lib.ListN.{length}
use Rattle.std.specs.Prelude.{Result}
use Rattle.commands.specs.declared.Position.{Position}
use Rattle.commands.specs.declared.ReadError.{ReadError}
use Rattle.summaries.specs.Inner.Promises.{HoldingsRead}
use Rattle.summaries.proofs.read_holdings.Given as goal

abbrev pub invariant-loop-context : goal.invariant-loop-context
invariant-loop-context l = (r : Result Position ReadError) → HoldingsRead l.context l.templates l.s l.least l.at.at r → HoldingsRead l.context l.templates l.s 0 l.initial.at.at r

abbrev pub decreases-loop-context : goal.decreases-loop-context
decreases-loop-context l = length l.s - l.at.at
