use native.Mathlib.Omega.{arith}
use Rattle.vocabularies.proofs.Laws.{told, onward}
use Rattle.judging.proofs.Evaluation.{conj_held, disj_held, neg_held, truth_held, attr_held, content_held, order_held, value_held}
use Rattle.judging.proofs.+holds.Goals as goal

pub returns-in-Conj : goal.returns-in-Conj
returns-in-Conj t c = let B = told _ _ c.formula_here-formula.ensures c.in-Conj.is in
    let first = c.holds-first.ensures in
    let second = c.holds-second.ensures in
    rw c.and.ensures (record {
      forward = omega (arith, (onward B).1, first.forward, second.forward);
      truth = conj_held _ B first.truth second.truth;
    })

pub returns-in-Disj : goal.returns-in-Disj
returns-in-Disj t c = let B = told _ _ c.formula_here-formula.ensures c.in-Disj.is in
    let first = c.holds-first-in-Disj.ensures in
    let second = c.holds-second-in-Disj.ensures in
    rw c.or.ensures (record {
      forward = omega (arith, (onward B).1, first.forward, second.forward);
      truth = disj_held _ B first.truth second.truth;
    })

pub returns-in-Neg : goal.returns-in-Neg
returns-in-Neg t c = let B = told _ _ c.formula_here-formula.ensures c.in-Neg.is in
    let only = c.holds-only.ensures in
    rw c.not.ensures (record {
      forward = omega (arith, (onward B).1, only.forward);
      truth = neg_held _ B only.truth;
    })

pub returns-in-Truth : goal.returns-in-Truth
returns-in-Truth t c = let B = told _ _ c.formula_here-formula.ensures c.in-Truth.is in
    record {
      forward = omega (arith, (onward B).1);
      truth = truth_held _ B;
    }

pub returns-in-Attr : goal.returns-in-Attr
returns-in-Attr t c = let B = told _ _ c.formula_here-formula.ensures c.in-Attr.is in
    record {
      forward = omega (arith, (onward B).1);
      truth = attr_held _ B c.is_member.ensures;
    }

pub returns-in-Content : goal.returns-in-Content
returns-in-Content t c = let B = told _ _ c.formula_here-formula.ensures c.in-Content.is in
    record {
      forward = omega (arith, (onward B).1);
      truth = content_held _ B c.is_member-in-Content.ensures;
    }

pub returns-in-Order : goal.returns-in-Order
returns-in-Order t c = let B = told _ _ c.formula_here-formula.ensures c.in-Order.is in
    record {
      forward = omega (arith, (onward B).1);
      truth = order_held _ B c.is_ordered.ensures;
    }

pub returns-in-Value : goal.returns-in-Value
returns-in-Value t c = let B = told _ _ c.formula_here-formula.ensures c.in-Value.is in
    record {
      forward = omega (arith, (onward B).1);
      truth = value_held _ B c.is_absent_or_valued.ensures;
    }
