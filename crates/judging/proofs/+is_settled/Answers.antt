use mathlib.Core.Path.{ap}
use mathlib.Core.Bool.{not}
use native.Mathlib.Omega.{arith}
use Rattle.vocabularies.proofs.Laws.{told, onward}
use Rattle.judging.proofs.Evaluation.{conj_decided, disj_decided, neg_decided, truth_decided, attr_decided, content_decided, order_decided, value_decided}
use Rattle.judging.proofs.+is_settled.Goals as goal

pub returns-in-Conj : goal.returns-in-Conj
returns-in-Conj t c = let B = told _ _ c.formula_here-formula.ensures c.in-Conj.is in
    let first = c.is_settled-first.ensures in
    let second = c.is_settled-second.ensures in
    rw c.and.ensures (record {
      forward = omega (arith, (onward B).1, first.forward, second.forward);
      settled = conj_decided _ B first.settled second.settled;
    })

pub returns-in-Disj : goal.returns-in-Disj
returns-in-Disj t c = let B = told _ _ c.formula_here-formula.ensures c.in-Disj.is in
    let first = c.is_settled-first-in-Disj.ensures in
    let second = c.is_settled-second-in-Disj.ensures in
    rw c.and-in-Disj.ensures (record {
      forward = omega (arith, (onward B).1, first.forward, second.forward);
      settled = disj_decided _ B first.settled second.settled;
    })

pub returns-in-Neg : goal.returns-in-Neg
returns-in-Neg t c = let B = told _ _ c.formula_here-formula.ensures c.in-Neg.is in
    record {
      forward = omega (arith, (onward B).1, c.is_settled.ensures.forward);
      settled = neg_decided _ B c.is_settled.ensures.settled;
    }

pub returns-in-Truth : goal.returns-in-Truth
returns-in-Truth t c = let B = told _ _ c.formula_here-formula.ensures c.in-Truth.is in
    record {
      forward = omega (arith, (onward B).1);
      settled = truth_decided _ B;
    }

pub returns-in-Attr : goal.returns-in-Attr
returns-in-Attr t c = let B = told _ _ c.formula_here-formula.ensures c.in-Attr.is in
    record {
      forward = omega (arith, (onward B).1);
      settled = attr_decided _ B;
    }

pub returns-in-Content : goal.returns-in-Content
returns-in-Content t c = let B = told _ _ c.formula_here-formula.ensures c.in-Content.is in
    record {
      forward = omega (arith, (onward B).1);
      settled = content_decided _ B;
    }

pub returns-in-Order : goal.returns-in-Order
returns-in-Order t c = let B = told _ _ c.formula_here-formula.ensures c.in-Order.is in
    record {
      forward = omega (arith, (onward B).1);
      settled = order_decided _ B c.lacks_one.ensures;
    }

pub returns-in-Value : goal.returns-in-Value
returns-in-Value t c = let B = told _ _ c.formula_here-formula.ensures c.in-Value.is in
    record {
      forward = omega (arith, (onward B).1);
      settled = value_decided _ B (ap not c.is_member.ensures);
    }
