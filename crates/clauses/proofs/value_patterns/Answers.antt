-- Absence is put in first, then, over any string, the one that stands for the others.
use mathlib.Core.Path.{ap, sym, ◌∙◌}
use mathlib.Core.Bool.{Bool, ◌&&◌}
use mathlib.Core.Option.{some, none}
use lib.Dec.{eqb}
use Rattle.clauses.proofs.StringSets.{values_named, values_any}
use borrow.Author.Rules.{rules}
use Rattle.clauses.proofs.value_patterns.Goals as goal

pub returns-in-Any : goal.returns-in-Any
returns-in-Any c = λ fs h few can is.
    values_any fs _ _ can _ (λ x. c.absence_patterns-absent.ensures x ∙ ap (λ (b : Bool). b && eqb x 0) (sym (is none))) _ _ _
    (c.attribute_pattern.ensures fs h few) c.with-others.ensures c.all.ensures
    (c.with_patterns.ensures fs h few) (λ s. rw c.in-Any.is at (is (some s)))

pub returns-in-Named : goal.returns-in-Named
returns-in-Named c = λ fs h few can is.
    values_named fs _ _ can _ (λ x. c.absence_patterns-absent.ensures x ∙ ap (λ (b : Bool). b && eqb x 0) (sym (is none))) c.in-Named.set (search rules)
    (c.with_patterns-in-Named.ensures fs h few) (λ s. rw c.in-Named.is at (is (some s)))
