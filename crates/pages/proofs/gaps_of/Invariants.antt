-- The templates passed have their gaps in the table.
use mathlib.Core.Path.{◌≡◌}
use mathlib.Core.List.{List}
use lib.ListN.{length}
use Rattle.pages.specs.Items.{Items}
use Rattle.pages.specs.Inner.Gaps.{StartsAt}
use Rattle.pages.proofs.Gathering.{Tabled}
use Rattle.pages.proofs.gaps_of.Given as goal

abbrev pub invariant-loop-t : goal.invariant-loop-t
invariant-loop-t l = (φs : List Items) → StartsAt l.s φs l.templates.starts → l.templates.count ≡ length φs → Tabled φs l.t l.table
