-- The word in which it stands has its bit, the others none.
use native.Mathlib.Omega.{arith}
use Rattle.pattern_sets.proofs.Laws.{only_pattern}
use Rattle.pattern_sets.proofs.only.Goals as goal

pub returns-in-0 : goal.returns-in-0
returns-in-0 c = only_pattern c.args.x c.with-word.result c.with-word.ensures 0 (omega arith) c.in-0.is

pub returns-in-1 : goal.returns-in-1
returns-in-1 c = only_pattern c.args.x c.with-word.result c.with-word.ensures 1 (omega arith) c.in-1.is

pub returns-in-2 : goal.returns-in-2
returns-in-2 c = only_pattern c.args.x c.with-word.result c.with-word.ensures 2 (omega arith) c.in-2.is

pub returns-in_default : goal.returns-in_default
returns-in_default c = only_pattern c.args.x c.with-word.result c.with-word.ensures 3 (omega arith) (omega arith)
