-- The listed strings, then any string.
use mathlib.Core.List.{[], ◌∷◌}
use mathlib.Core.Path.{ap, sym, ◌∙◌}
use native.Mathlib.Omega.{arith}
use lib.ListN.{length, length-append}
use Rattle.sets.specs.Sets.{member}
use Rattle.proposals.specs.Inner.Bytes.{members}
use Rattle.proposals.proofs.Members.{members_most}
use Rattle.proposals.proofs.Values.{strings_any, strings_named}
use Rattle.proposals.proofs.strings_length.Goals as goal

pub overflow_add-result : goal.overflow_add-result
overflow_add-result c = omega (arith, c.members_length-n.ensures, members_most (0x47 ∷ []) (member c.listed.result) 64 (omega arith) (omega arith))

pub returns-then-takes_any : goal.returns-then-takes_any
returns-then-takes_any c = omega (arith, c.members_length-n.ensures, ap length (strings_any c.args.values _ c.listed.ensures (sym c.takes_any.ensures ∙ c.if-takes_any.true)), length-append (members (0x47 ∷ []) 64 (member c.listed.result)) (0x48 ∷ []))

pub returns : goal.returns
returns c = c.members_length-n.ensures ∙ sym (ap length (strings_named c.args.values _ c.listed.ensures (sym c.takes_any.ensures ∙ c.if-takes_any.false)))
