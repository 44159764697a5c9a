use mathlib.Core.Path.{ap}
use native.Mathlib.Omega.{arith}
use Rattle.commands.specs.declared.Position.{Position}
use Rattle.vocabularies.proofs.Laws.{told, onward}
use Rattle.clauses.proofs.TrueForms.{true_conj, true_disj, true_neg, true_truth, true_attr, true_content, true_order, true_value}
use Rattle.clauses.proofs.+true_patterns.Goals as goal

pub returns-in-Conj : goal.returns-in-Conj
returns-in-Conj t c = let B = told _ _ c.formula_here-formula.ensures c.in-Conj.is in record {
  forward = omega (arith, (onward B).1, c.true_patterns-first.ensures.forward, c.true_patterns-second.ensures.forward, ap (λ (p : Position). p.at) c.and.ensures.0);
  truths = true_conj _ c.true_patterns-first.result c.true_patterns-second.result _ B c.true_patterns-first.ensures.truths c.true_patterns-second.ensures.truths c.and.ensures.0 c.and.ensures.1;
}

pub returns-in-Disj : goal.returns-in-Disj
returns-in-Disj t c = let B = told _ _ c.formula_here-formula.ensures c.in-Disj.is in record {
  forward = omega (arith, (onward B).1, c.true_patterns-first-in-Disj.ensures.forward, c.true_patterns-second-in-Disj.ensures.forward, ap (λ (p : Position). p.at) c.or.ensures.0);
  truths = true_disj _ c.true_patterns-first-in-Disj.result c.true_patterns-second-in-Disj.result _ B c.true_patterns-first-in-Disj.ensures.truths c.true_patterns-second-in-Disj.ensures.truths c.or.ensures.0 c.or.ensures.1;
}

pub returns-in-Neg : goal.returns-in-Neg
returns-in-Neg t c = let B = told _ _ c.formula_here-formula.ensures c.in-Neg.is in record {
  forward = omega (arith, (onward B).1, c.true_patterns-only.ensures.forward, ap (λ (p : Position). p.at) c.not.ensures.0);
  truths = true_neg _ c.true_patterns-only.result _ B c.true_patterns-only.ensures.truths c.not.ensures.0 c.not.ensures.1;
}

pub returns-in-Truth : goal.returns-in-Truth
returns-in-Truth t c = let B = told _ _ c.formula_here-formula.ensures c.in-Truth.is in record {
  forward = omega (arith, (onward B).1);
  truths = true_truth _ _ B c.all_if.ensures;
}

pub returns-in-Attr : goal.returns-in-Attr
returns-in-Attr t c = let B = told _ _ c.formula_here-formula.ensures c.in-Attr.is in record {
  forward = omega (arith, (onward B).1);
  truths = true_attr _ _ B c.flagged_by.ensures;
}

pub returns-in-Content : goal.returns-in-Content
returns-in-Content t c = let B = told _ _ c.formula_here-formula.ensures c.in-Content.is in record {
  forward = omega (arith, (onward B).1);
  truths = true_content _ _ B c.flagged_by-in-Content.ensures;
}

pub returns-in-Order : goal.returns-in-Order
returns-in-Order t c = let B = told _ _ c.formula_here-formula.ensures c.in-Order.is in record {
  forward = omega (arith, (onward B).1);
  truths = true_order _ _ B c.unbroken_by.ensures;
}

pub returns-in-Value : goal.returns-in-Value
returns-in-Value t c = let B = told _ _ c.formula_here-formula.ensures c.in-Value.is in record {
  forward = omega (arith, (onward B).1);
  truths = true_value _ _ B c.unbroken_by-in-Value.ensures;
}
