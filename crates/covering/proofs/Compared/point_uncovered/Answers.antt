-- Both sides are compared, the first before the second.
use Rattle.std.proofs.lemmas.Result.{err_from_is_err_and}
use Rattle.covering.proofs.Points.{stops, first_fails, same_sides, second_told}
use Rattle.covering.proofs.Compared.point_uncovered.Goals as goal

pub returns-in_default : goal.returns-in_default
returns-in_default c = let args = c.args in
    record {
      covers = λ j count starts points places T G f place_is.
          stops j args.self.now.s.now count starts points places args.self.now.points.now.named args.self.now.heads.now T args.self.now.gaps.now G args.p args.place f place_is c.new.result c.new.ensures c.statement_at-statement.result c.statement_at-statement.ensures c.in_default.is;
      empty = c.requires;
    }

pub returns-in_err-step_uncovered : goal.returns-in_err-step_uncovered
returns-in_err-step_uncovered c = let args = c.args in
    let p = err_from_is_err_and c.from_residual.result c.from_residual.ensures.1 in
    record {
      covers = λ j count starts points places T G f place_is. rw (p.1, p.2)
          (first_fails j args.self.now.s.now count starts points places args.self.now.points.now.named args.self.now.heads.now T args.self.now.gaps.now G args.p args.place f place_is c.new.result c.new.ensures c.statement_at-statement.result c.statement_at-statement.ensures _ _ _ c.in-Step.is _ (c.in_err-step_uncovered.ensures.lowest j));
      empty = c.in_err-step_uncovered.ensures.empty;
    }

pub returns-then-second-first : goal.returns-then-second-first
returns-then-second-first c = let args = c.args in
    record {
      covers = λ j count starts points places T G f place_is.
          same_sides j args.self.now.s.now count starts points places args.self.now.points.now.named args.self.now.heads.now T args.self.now.gaps.now G args.p args.place f place_is c.new.result c.new.ensures c.statement_at-statement.result c.statement_at-statement.ensures _ _ _ c.in-Step.is (c.in_ok-step_uncovered.ensures.lowest j) c.if-second-first.true;
      empty = c.in_ok-step_uncovered.ensures.empty;
    }

pub returns : goal.returns
returns c = let args = c.args in
    record {
      covers = λ j count starts points places T G f place_is.
          second_told j args.self.now.s.now count starts points places args.self.now.points.now.named args.self.now.heads.now T args.self.now.gaps.now G args.p args.place f place_is c.new.result c.new.ensures c.statement_at-statement.result c.statement_at-statement.ensures _ _ _ c.in-Step.is (c.in_ok-step_uncovered.ensures.lowest j) c.step_uncovered-2.result (c.step_uncovered-2.ensures.lowest j);
      empty = c.step_uncovered-2.ensures.empty;
    }
