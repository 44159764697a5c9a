-- The fuel of the definition is enough for a page.
use native.Mathlib.Omega.{arith}
use Rattle.commands.specs.Reading.{enough}
use Rattle.pages.proofs.read_page.Goals as goal

pub returns : goal.returns
returns c = rw c.new.ensures at c.read_items.ensures (enough c.args.s.now) (omega arith)
