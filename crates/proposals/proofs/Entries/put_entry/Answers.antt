-- By the kind of the variable.
use mathlib.Core.Path.{ap}
use native.Mathlib.Omega.{arith}
use lib.ListN.{length}
use Rattle.memory.proofs.Laid.{writes_same}
use Rattle.proposals.proofs.Heads.{entry_of_graph, entry_of_values}
use Rattle.proposals.proofs.Entries.put_entry.Goals as goal

pub put_template-requires : goal.put_template-requires
put_template-requires c = let args = c.args in
    let e = entry_of_graph args.self.now.templates args.self.now.few args.self.now.work.now args.p args.v c.if-v-lt4.true _ c.graph_at-graph.ensures in
    omega (arith, c.requires.0, ap length e)

pub returns-then-v-lt4 : goal.returns-then-v-lt4
returns-then-v-lt4 c = let args = c.args in
    let e = entry_of_graph args.self.now.templates args.self.now.few args.self.now.work.now args.p args.v c.if-v-lt4.true _ c.graph_at-graph.ensures in
    writes_same _ _ _ _ _ _ e c.put_template.ensures

pub put_strings-requires : goal.put_strings-requires
put_strings-requires c = let args = c.args in
    let e = entry_of_values args.self.now.templates args.self.now.work.now args.p args.v c.if-v-lt4.false _ c.values_at.ensures in
    omega (arith, c.requires.0, ap length e)

pub returns : goal.returns
returns c = let args = c.args in
    let e = entry_of_values args.self.now.templates args.self.now.work.now args.p args.v c.if-v-lt4.false _ c.values_at.ensures in
    writes_same _ _ _ _ _ _ e c.put_strings.ensures
