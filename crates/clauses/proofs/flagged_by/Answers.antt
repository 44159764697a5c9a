-- The flag of a fact is at its place.
use Rattle.clauses.proofs.TrueForms.{flagged_placed, flagged_nowhere}
use Rattle.clauses.proofs.flagged_by.Goals as goal

pub returns-in-Some : goal.returns-in-Some
returns-in-Some c = flagged_placed _ _ _ _ (rw c.in-Some.is at c.place_of.ensures) c.flagged.ensures

pub returns-in-None : goal.returns-in-None
returns-in-None c = flagged_nowhere _ _ _ (rw c.in-None.is at c.place_of.ensures) c.empty.ensures
