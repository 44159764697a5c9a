-- The root alone, another content, or by the place among the contents.
use Rattle.schemes.proofs.Joining.{single_alone, single_other, single_found, single_nowhere}
use Rattle.schemes.proofs.single.Goals as goal

pub returns-in-Root : goal.returns-in-Root
returns-in-Root c = rw c.in-Root.is (single_alone _ _ c.if-root-c.true)

pub returns-in-Root-2 : goal.returns-in-Root-2
returns-in-Root-2 c = rw c.in-Root.is (single_other _ _ c.if-root-c.false)

pub returns-in-Some : goal.returns-in-Some
returns-in-Some c = rw c.in-Facts.is (single_found _ _ _ c.requires (rw c.in-Some.is at c.place_in.ensures))

pub returns-in-None : goal.returns-in-None
returns-in-None c = rw c.in-Facts.is (single_nowhere _ _ (rw c.in-None.is at c.place_in.ensures))
