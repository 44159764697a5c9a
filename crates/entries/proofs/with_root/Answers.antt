-- Only a root says one.
use Rattle.entries.proofs.Gathering.{more_root, no_root}
use Rattle.entries.proofs.with_root.Goals as goal

pub returns-in-Root : goal.returns-in-Root
returns-in-Root c = more_root _ _ _ _ c.in-Root.is c.with.ensures

pub returns-in_default : goal.returns-in_default
returns-in_default c = no_root _ _ c.in_default.not-Root
