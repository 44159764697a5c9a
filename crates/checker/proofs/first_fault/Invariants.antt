-- The shows of the points passed hold, and those of the graph that was found right last.
use Rattle.summaries.specs.Summaries.{entries}
use Rattle.jobs.specs.Job.{Job}
use Rattle.checker.specs.Inner.Promises.{ReadAt}
use Rattle.checker.proofs.Points.{Below, RightLast}
use Rattle.checker.proofs.first_fault.Given as goal

abbrev pub invariant-loop-p : goal.invariant-loop-p
invariant-loop-p l = (j : Job) → ReadAt l.s l.vocabulary l.tables l.templates.count l.templates.starts l.points.count l.points.places l.heads j
    → Below j.script (entries j.proposal) l.p-counter × RightLast j l.right
