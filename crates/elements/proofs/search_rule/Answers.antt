use native.Mathlib.Omega.{arith}
use Rattle.commands.proofs.Laws.{past_over, past_other}
use Rattle.vocabularies.proofs.Laws.{formula_moved}
use Rattle.elements.proofs.Rules.{rule_nowhere, rule_ends, rule_unread, rule_goes, ruling_more, ruling_ends}
use Rattle.elements.proofs.search_rule.Goals as goal

pub returns-then-chosen-eq0 : goal.returns-then-chosen-eq0
returns-then-chosen-eq0 c = let args = c.args in
    rule_nowhere args.s.now args.e args.graph.now args.templates.now.starts args.templates.now.count args.chosen args.from.at 0 c.if-chosen-eq0.true

pub loop-formula-init : goal.loop-formula-init
loop-formula-init c = (record { few = omega arith; goes = λ r S. S }, tt)

pub returns-in_default : goal.returns-in_default
returns-in_default c = let args = c.args in
    ruling_ends _ _ _ _ _ _ _ _ _ _ c.loop-formula.invariant.0
    (rule_ends args.s.now args.e args.graph.now args.templates.now.starts args.templates.now.count args.chosen c.loop-formula.here.at c.loop-formula.place
    (past_other args.s.now c.loop-formula.here.at 0x04 c.past.result c.past.ensures c.in_default.is (λ z. absurd (omega arith))))

pub returns-in_default-read_formula : goal.returns-in_default-read_formula
returns-in_default-read_formula c = let args = c.args in
    let over = past_over args.s.now c.loop-formula.here.at 0x04 c.past.result _ c.past.ensures c.in-Some.is in
    ruling_ends _ _ _ _ _ _ _ _ _ _ c.loop-formula.invariant.0
    (rule_unread args.s.now args.e args.graph.now args.templates.now.starts args.templates.now.count args.chosen c.loop-formula.here.at c.loop-formula.place c.in-Some.formula over.2
    c.read_formula.result c.read_formula.ensures _ c.in_default-read_formula.is over.1)

pub settle_by-requires : goal.settle_by-requires
settle_by-requires c = c.loop-formula.invariant.1

pub search_clause-found-requires : goal.search_clause-found-requires
search_clause-found-requires c = c.settle_by.ensures

pub overflow_add-place : goal.overflow_add-place
overflow_add-place c = let over = past_over c.args.s.now _ _ c.past.result _ c.past.ensures c.in-Some.is in
    omega (arith, over.0, c.loop-formula.invariant.0.few, c.well_formed.0.1)

pub loop-formula-smaller : goal.loop-formula-smaller
loop-formula-smaller c = let over = past_over c.args.s.now _ _ c.past.result _ c.past.ensures c.in-Some.is in
    let moves = formula_moved _ _ _ _ c.in-Ok.ensures in
    omega (arith, over.0, over.2, moves.0)

pub loop-formula-preserved : goal.loop-formula-preserved
loop-formula-preserved c = let args = c.args in
    let over = past_over args.s.now c.loop-formula.here.at 0x04 c.past.result _ c.past.ensures c.in-Some.is in
    let ended = c.in-Ok.is in
    let moves = formula_moved _ _ _ _ c.in-Ok.ensures in (
      ruling_more args.s.now args.e args.graph.now args.templates.now.starts args.templates.now.count args.chosen args.from.at c.loop-formula.here.at c.loop-formula.place _ c.loop-formula.lowest
          c.search_clause-found.result c.lower-lowest.result c.lower-lowest.ensures (omega (arith, over.2, moves.0)) c.loop-formula.invariant.0
          (λ r later. rule_goes args.s.now args.e args.graph.now args.templates.now.starts args.templates.now.count args.chosen c.loop-formula.here.at c.loop-formula.place c.in-Some.formula over.2
          c.read_formula.result c.read_formula.ensures _ ended c.facts_of-facts.result c.facts_of-facts.ensures c.facts_scheme-scheme.result c.facts_scheme-scheme.ensures over.1 c.search_clause-found.result c.search_clause-found.ensures r later),
      c.settle_by.ensures,
    )
