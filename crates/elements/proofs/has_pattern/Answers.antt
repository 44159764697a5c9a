-- Nothing to take; or what the list inside has.
use mathlib.Core.Logic.{inl}
use Rattle.elements.proofs.Searches.{inside_had}
use Rattle.elements.proofs.has_pattern.Goals as goal

pub returns-then-not-takes : goal.returns-then-not-takes
returns-then-not-takes c = inl c.if-not-takes.true

pub returns : goal.returns
returns c = let args = c.args in
    inside_had args.takes args.inner c.if-not-takes.false c.is_empty.result c.is_empty.ensures
