use mathlib.Core.List.{[]}
use mathlib.Core.Logic.{inl, inr}
use Rattle.languages.proofs.GapSets.{filled_more}
use Rattle.languages.proofs.RoundLaws.{RowIs, row_computed, row_kept, round_all}
use Rattle.languages.proofs.Settler.round.Goals as goal
use Rattle.languages.proofs.Settler.round.Goals.{then-keeps_set, else-keeps_set}

pub returns-then-self-n : goal.returns-then-self-n
returns-then-self-n c = let a = c.args in
    round_all a.self.now.r a.self.now.s.now a.self.now.graph.now a.self.now.templates.now.starts a.targets.now a.sets.now a.self.now.templates.now.count a.changed _ _ (inl c.if-self-n.true) c.loop-n.invariant

pub loop-n-preserved : goal.loop-n-preserved
loop-n-preserved c = let a = c.args in
    let low = c.loop-n-test.true in
    let more = filled_more 32 [] (RowIs a.self.now.r a.self.now.s.now a.self.now.graph.now a.self.now.templates.now.starts a.targets.now a.sets.now a.self.now.templates.now.count a.changed) c.loop-n.next c.loop-n.n in
    elim c.if-keeps_set.branch [
      | then-keeps_set m ↦ rw m.next-is (more _ low
          (row_kept a.self.now.r a.self.now.s.now a.self.now.graph.now a.self.now.templates.now.starts a.targets.now a.sets.now a.self.now.templates.now.count a.changed c.loop-n.n low _ m.if-keeps_set.true c.keeps_set.ensures) c.loop-n.invariant)
      | else-keeps_set m ↦ rw m.next-is (more _ low
          (row_computed a.self.now.r a.self.now.s.now a.self.now.graph.now a.self.now.templates.now.starts a.targets.now a.sets.now a.self.now.templates.now.count a.changed c.loop-n.n _ m.template_patterns.ensures) c.loop-n.invariant)
    ]

pub returns : goal.returns
returns c = let a = c.args in
    round_all a.self.now.r a.self.now.s.now a.self.now.graph.now a.self.now.templates.now.starts a.targets.now a.sets.now a.self.now.templates.now.count a.changed _ _ (inr c.loop-n-test.false) c.loop-n.invariant
