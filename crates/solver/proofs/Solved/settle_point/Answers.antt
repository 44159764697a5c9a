-- By the statement, and by whether its next points are the same.
use mathlib.Core.Path.{◌∙◌}
use lib.ListN.{get_or, length-set}
use Rattle.solver.proofs.Points.{settles_none, settles_once, settles_twice}
use borrow.Author.Rules.{rules}
use Rattle.solver.proofs.Solved.settle_point.Goals as goal

pub returns-in_default : goal.returns-in_default
returns-in_default c = let args = c.args in
    settles_none args.self.now.s.now args.self.now.gaps.now args.self.now.points.now.named (get_or args.self.now.points.now.places args.p 0) args.p _ c.new.ensures c.statement_at-statement.result c.statement_at-statement.ensures _ args.waiting.now c.in_default.is

pub take_step-requires : goal.take_step-requires
take_step-requires c = (search rules, search rules, length-set c.args.waiting.now _ _ ∙ c.requires.1, search rules)

pub returns-then-far-near : goal.returns-then-far-near
returns-then-far-near c = let args = c.args in
    settles_once args.self.now.s.now args.self.now.gaps.now args.self.now.points.now.named (get_or args.self.now.points.now.places args.p 0) args.p _ c.new.ensures c.statement_at-statement.result c.statement_at-statement.ensures _ args.waiting.now _ _ _ _ _ c.in-Step.is c.take_step.ensures c.if-far-near.true

pub take_step-requires-2 : goal.take_step-requires-2
take_step-requires-2 c = (search rules, search rules, c.take_step.ensures.same_length ∙ length-set c.args.waiting.now _ _ ∙ c.requires.1, search rules)

pub returns : goal.returns
returns c = let args = c.args in
    settles_twice args.self.now.s.now args.self.now.gaps.now args.self.now.points.now.named (get_or args.self.now.points.now.places args.p 0) args.p _ c.new.ensures c.statement_at-statement.result c.statement_at-statement.ensures _ args.waiting.now _ _ _ _ _ c.in-Step.is c.take_step.ensures _ _ c.take_step-2.ensures
