use mathlib.Core.Path.{◌≡◌, subst}
use native.Mathlib.Omega.{arith}
use Rattle.std.proofs.Common.{Err, rules}
use Rattle.summaries.specs.Summaries.{entries}
use Rattle.jobs.proofs.Told.{TellsAs, told_err, told_ok}
use Rattle.shows.specs.Inner.Promises.{ShowFound}
use Rattle.checker.specs.Inner.Promises.{fault_at}
use Rattle.checker.proofs.Points.{point_stands, shows_nothing, right_at, right_again, shows_graph, right_graph, shows_go, shows_fail, shows_end}
use Rattle.checker.proofs.first_fault.Goals as goal

pub loop-p-init : goal.loop-p-init
loop-p-init c j R = (λ q l. absurd (omega arith), record { is_right = λ g e. absurd (cc) })

pub loop-p-preserved-in_default : goal.loop-p-preserved-in_default
loop-p-preserved-in_default c j R = (
  shows_go j.script (entries j.proposal) c.loop-p.p-counter (c.loop-p.invariant j R).0
      (shows_nothing _ _ _ _ c.loop-p.p-counter j (point_stands _ _ _ _ _ _ _ _ j R c.loop-p.p-counter (omega arith)) c.showing_at.result c.showing_at.ensures c.in_default.is),
  (c.loop-p.invariant j R).1,
)

pub loop-p-preserved-then-is_right : goal.loop-p-preserved-then-is_right
loop-p-preserved-then-is_right c j R = (
  shows_go j.script (entries j.proposal) c.loop-p.p-counter (c.loop-p.invariant j R).0
      (right_again _ _ _ _ c.loop-p.p-counter j (point_stands _ _ _ _ _ _ _ _ j R c.loop-p.p-counter (omega arith)) c.showing_at.result c.showing_at.ensures _ c.in-Some.is _ c.none-graph.ensures _ c.shown_graph.ensures
      _ (c.loop-p.invariant j R).1 c.is_right.result c.if-is_right.true c.is_right.ensures),
  (c.loop-p.invariant j R).1,
)

pub returns-in_err-map_err : goal.returns-in_err-map_err
returns-in_err-map_err c j R covered =
    let tells : TellsAs (fault_at c.loop-p.p-counter) c.decide.result c.map_err.result = search rules in
    let up : c.from_residual.result ≡ Err c.in_err-map_err.field-0.0 = search rules in
    let (w, is, told) = told_err (fault_at c.loop-p.p-counter) c.decide.result c.map_err.result tells _ c.in_err-map_err.was in
    let found = shows_graph _ _ _ _ _ _ _ _ j R c.loop-p.p-counter (omega arith) c.showing_at.result c.showing_at.ensures _ c.in-Some.is _ c.none-graph.ensures _ c.shown_graph.ensures c.decide.result c.decide.ensures in
    rw up (shows_fail j.script (entries j.proposal) c.loop-p.p-counter (c.loop-p.invariant j R).0 w (subst (ShowFound j.script (entries j.proposal) c.loop-p.p-counter) is found) _ told covered)

pub loop-p-preserved : goal.loop-p-preserved
loop-p-preserved c j R =
    let tells : TellsAs (fault_at c.loop-p.p-counter) c.decide.result c.map_err.result = search rules in
    let is = told_ok (fault_at c.loop-p.p-counter) c.decide.result c.map_err.result tells _ c.in_ok-map_err.was in
    let found = shows_graph _ _ _ _ _ _ _ _ j R c.loop-p.p-counter (omega arith) c.showing_at.result c.showing_at.ensures _ c.in-Some.is _ c.none-graph.ensures _ c.shown_graph.ensures c.decide.result c.decide.ensures in
    let right = right_graph _ _ _ _ _ _ _ _ j R c.loop-p.p-counter (omega arith) c.showing_at.result c.showing_at.ensures _ c.in-Some.is _ c.none-graph.ensures _ c.shown_graph.ensures c.decide.result c.decide.ensures _ is in (
      shows_go j.script (entries j.proposal) c.loop-p.p-counter (c.loop-p.invariant j R).0 (subst (ShowFound j.script (entries j.proposal) c.loop-p.p-counter) is found),
      right_at j _ right,
    )

pub returns : goal.returns
returns c j R covered = shows_end j.script (entries j.proposal) _ (c.loop-p.invariant j R).0 (let e = R.parts.of_script.points_are in omega arith) covered
