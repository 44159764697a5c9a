-- What is kept so far and what reads on from here make up the whole; each statement moves the position on.
use Prim.Native.Nat.{◌-◌, ◌≤◌}
use mathlib.Core.Path.{◌≡◌}
use lib.ListN.{length}
use Rattle.std.specs.Prelude.{Result}
use Rattle.commands.specs.declared.Position.{Position}
use Rattle.commands.specs.declared.ReadError.{ReadError}
use Rattle.programs.specs.declared.Points.{Points}
use Rattle.programs.specs.ProgramReading.{most_points}
use Rattle.programs.specs.Inner.Promises.{StatementsRead}
use Rattle.programs.proofs.Reading.{PlacesStay}
use Rattle.programs.proofs.read_statements.Given as goal

abbrev pub invariant-loop-code : goal.invariant-loop-code
invariant-loop-code l = (l.count ≤ most_points)
    × (length l.places ≡ most_points)
    × ((r : Result (Points × Position) ReadError) → PlacesStay l.count l.places r → StatementsRead l.s l.templates l.count l.named l.at.at r → StatementsRead l.s l.templates 0 0 l.initial.at.at r)

abbrev pub decreases-loop-code : goal.decreases-loop-code
decreases-loop-code l = length l.s - l.at.at
