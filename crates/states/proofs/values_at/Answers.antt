-- Two words are read.
use Rattle.states.proofs.Taken.{any_taken, named_taken}
use borrow.Author.Rules.{rules}
use Rattle.states.proofs.values_at.Goals as goal

pub returns-then-has : goal.returns-then-has
returns-then-has c = any_taken _ _ _ _ (search rules) c.strings_place-first.ensures _ c.has.ensures c.if-has.true

pub returns : goal.returns
returns c = named_taken _ _ _ _ (search rules) c.strings_place-first.ensures _ c.has.ensures c.if-has.false (λ k. (c.type_inv.work k).fits) _ c.of_number.ensures
