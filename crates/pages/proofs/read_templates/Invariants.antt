-- The templates that are done are located, and what is read from the position on goes on them.
use Prim.Native.Nat.{◌-◌}
use lib.ListN.{length}
use Rattle.sets.specs.Sets.{member}
use Rattle.pages.proofs.TemplateAgreement.{TemplatesDone}
use Rattle.pages.proofs.read_templates.Given as goal

abbrev pub invariant-loop-code : goal.invariant-loop-code
invariant-loop-code l = TemplatesDone (member l.declared) l.s l.initial.p.at l.count l.starts l.p.at

abbrev pub decreases-loop-code : goal.decreases-loop-code
decreases-loop-code l = length l.s - l.p.at
