-- What a command of one operand in range is, `command` tells too.
use native.Mathlib.Omega.{arith}
use Rattle.commands.proofs.Laws.{single_moves}
use Rattle.commands.proofs.Position.name_command.Goals as goal

pub returns : goal.returns
returns c = single_moves _ _ _ _ _ c.requires c.if-s-at.false c.if-s-at-2.false (omega arith) c.if-most-s.false
