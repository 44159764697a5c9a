use borrow.Author.Rules.{rules}
use Prim.Native.Nat.{◌<◌}
use native.Mathlib.Omega.{arith}
use lib.ListN.{length-set}
use Rattle.vocabularies.proofs.Rules.{adds_rule}
use Rattle.vocabularies.proofs.Vocabularies.{rules_start, rules_refused, element_fits, rules_unrooted, rules_rooted, rules_twice, rules_broken, rules_more, rules_fall}
use Rattle.vocabularies.proofs.read_vocabulary.Goals as goal

pub loop-code-init : goal.loop-code-init
loop-code-init c = (c.no_tables-tables.ensures.long, search rules_start)

pub returns-in_default : goal.returns-in_default
returns-in_default c = search rules_refused

pub has-requires : goal.has-requires
has-requires c = search element_fits

pub returns-then-not-has : goal.returns-then-not-has
returns-then-not-has c = search rules_unrooted

pub returns-then-code-eq5 : goal.returns-then-code-eq5
returns-then-code-eq5 c = search rules_rooted

pub has-requires-in-loop-code : goal.has-requires-in-loop-code
has-requires-in-loop-code c = search element_fits

pub loop-code-preserved : goal.loop-code-preserved
loop-code-preserved c = let low : c.operand-e.result < 64 = search element_fits in
    let adds = adds_rule c.loop-code.tables c.operand-e.result c.in_ok-rule.rule c.with.result c.with.ensures
    (omega (arith, low, c.loop-code.invariant.0)) in
    (simp length-set c.loop-code.invariant.0, search (rules_more, adds, c.in_ok-rule.ensures))

pub returns-then-has : goal.returns-then-has
returns-then-has c = search rules_twice

pub returns-in_err-rule : goal.returns-in_err-rule
returns-in_err-rule c = search (rules, rules_broken _ _ _ c.loop-code.invariant.1 _ c.command-d.ensures _ _ c.in-Moved.is _ c.operand-e.ensures _ c.has-in-loop-code.ensures c.if-code-eq5.false c.if-has.false _ c.in_err-rule.ensures)

pub with-requires : goal.with-requires
with-requires c = search element_fits

pub bounds-tables-e : goal.bounds-tables-e
bounds-tables-e c = search (element_fits, rules)

pub loop-code-smaller : goal.loop-code-smaller
loop-code-smaller c = search (rules_fall, c.in_ok-rule.ensures)
