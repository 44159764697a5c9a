use Rattle.std.proofs.Common.{rules}
use Rattle.vocabularies.proofs.Clauses.{clauses_start, clauses_end, clauses_refused, clauses_many, clauses_more, clause_falls, clause_stands}
use Rattle.vocabularies.proofs.read_clauses.Goals as goal

pub loop-start-init : goal.loop-start-init
loop-start-init c = clauses_start _ _

pub returns : goal.returns
returns c = search clauses_end

pub returns-in_err-next : goal.returns-in_err-next
returns-in_err-next c = search (rules, clauses_refused _ _ _ c.loop-start.invariant _ c.past.ensures _ c.in-Some.is _ c.in_err-next.ensures)

pub has_many_facts-requires : goal.has_many_facts-requires
has_many_facts-requires c = search (clause_stands, c.in_ok-next.ensures)

pub returns-then-has_many_facts : goal.returns-then-has_many_facts
returns-then-has_many_facts c = search (clauses_many, c.in_ok-next.ensures)

pub loop-start-smaller : goal.loop-start-smaller
loop-start-smaller c = search (clause_falls, c.in_ok-next.ensures)

pub loop-start-preserved : goal.loop-start-preserved
loop-start-preserved c = search (clauses_more, c.in_ok-next.ensures)
