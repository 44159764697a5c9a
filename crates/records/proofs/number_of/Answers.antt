-- The four bytes, each with its weight.
use native.Mathlib.Omega.{arith}
use Rattle.records.proofs.Spelling.{four}
use Rattle.records.proofs.number_of.Goals as goal

pub returns : goal.returns
returns c = omega (arith, c.from_le_bytes.ensures, four c.args.bytes.now)
