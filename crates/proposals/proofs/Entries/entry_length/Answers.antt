-- By the kind of the variable, and whether anything is held of it.
use Prim.Native.Nat.{◌+◌}
use mathlib.Core.Path.{sym, ap, ◌∙◌}
use lib.ListN.{length}
use Rattle.proposals.specs.Inner.Bytes.{entry_at}
use Rattle.proposals.proofs.Heads.{entry_of_graph, entry_of_values, blank_entry}
use Rattle.proposals.proofs.Entries.entry_length.Goals as goal

pub returns-then-is_blank : goal.returns-then-is_blank
returns-then-is_blank c = let args = c.args in blank_entry args.self.now.templates (entry_at args.self.now.work.now args.p) args.v c.if-v-lt4.true (λ k. c.is_blank.ensures c.if-is_blank.true (args.p + 1) k)

pub returns-then-v-lt4 : goal.returns-then-v-lt4
returns-then-v-lt4 c = let args = c.args in
    c.template_length.ensures ∙ sym (ap length (entry_of_graph args.self.now.templates args.self.now.few args.self.now.work.now args.p args.v c.if-v-lt4.true _ c.graph_at-graph.ensures))

pub returns : goal.returns
returns c = let args = c.args in
    c.strings_length.ensures ∙ sym (ap length (entry_of_values args.self.now.templates args.self.now.work.now args.p args.v c.if-v-lt4.false _ c.values_at.ensures))
