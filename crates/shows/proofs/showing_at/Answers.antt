-- By the statement: `37` and `39` show something.
use mathlib.Core.Path.{◌∙◌}
use Rattle.shows.proofs.Statements.{stop_shows_nothing, act_shows, act_shows_framed, other_shows_nothing}
use Rattle.shows.proofs.showing_at.Goals as goal

pub returns-in_default : goal.returns-in_default
returns-in_default c = let args = c.args in
    stop_shows_nothing args.s.now args.place c.statement_at-statement.result (c.statement_at-statement.ensures ∙ rw c.new.ensures) c.in_default.is

pub returns-in-Show : goal.returns-in-Show
returns-in-Show c = let args = c.args in
    act_shows args.s.now args.place c.statement_at-statement.result (c.statement_at-statement.ensures ∙ rw c.new.ensures) _ _ _ c.in-Step.is _ c.in-Show.is

pub returns-in-ShowFramed : goal.returns-in-ShowFramed
returns-in-ShowFramed c = let args = c.args in
    act_shows_framed args.s.now args.place c.statement_at-statement.result (c.statement_at-statement.ensures ∙ rw c.new.ensures) _ _ _ c.in-Step.is _ _ _ c.in-ShowFramed.is

pub returns-in_default-act : goal.returns-in_default-act
returns-in_default-act c = let args = c.args in
    other_shows_nothing args.s.now args.place c.statement_at-statement.result (c.statement_at-statement.ensures ∙ rw c.new.ensures) _ _ _ c.in-Step.is c.in_default-act.not-Show c.in_default-act.not-ShowFramed
