use mathlib.Core.Path.{sym, ◌∙◌}
use mathlib.Core.Bool.{false≢true}
use Rattle.entries.proofs.Fragments.{fragment_root}
use Rattle.entries.proofs.fragment_holds.Goals as goal

pub returns-then-not-is_member : goal.returns-then-not-is_member
returns-then-not-is_member c = λ φ R g k w. false≢true (sym c.if-not-is_member.true ∙ (c.is_member.ensures ∙ (c.roots.ensures _ ∙ fragment_root c.args.graph.now c.args.t c.args.gaps φ R g k w)))
