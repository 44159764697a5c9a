-- The word of any string gains the template, that of the strings those named.
use native.Mathlib.Omega.{arith}
use Prim.Native.Nat.{◌%◌}
use mathlib.Core.Path.{◌≡◌}
use Rattle.graphs.proofs.Storing.{named_add, any_add}
use borrow.Author.Rules.{rules}
use Rattle.graphs.proofs.add_strings_at.Goals as goal

pub returns-in-Any : goal.returns-in-Any
returns-in-Any c = λ f l.
    let args = c.args in
    let a : args.n % 64 ≡ args.n = omega arith in
    rw c.in-Any.is (any_add _ _ _ f l _ _ (omega arith) (search rules) (rw a at c.with.ensures))

pub returns-in-Named : goal.returns-in-Named
returns-in-Named c = λ f l. rw c.in-Named.is (named_add _ _ _ f l _ _ (c.word_at-i.ensures.1 f l) (search rules) _ c.union.ensures)
