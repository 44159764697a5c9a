-- The listed strings, then any string.
use mathlib.Core.List.{[], ◌∷◌}
use mathlib.Core.Bool.{cond}
use mathlib.Core.Path.{sym, ◌∙◌}
use native.Mathlib.Omega.{arith}
use lib.ListN.{length-append}
use Rattle.sets.specs.Sets.{member}
use Rattle.strings.specs.Inner.Promises.{holds_value}
use Rattle.summaries.specs.ProposalOf.{unlisted}
use Rattle.memory.proofs.Laid.{writes_same, writes_then, writes_fits}
use Rattle.proposals.specs.Inner.Bytes.{members}
use Rattle.proposals.proofs.Values.{strings_any, strings_named, listed_first}
use Rattle.proposals.proofs.put_strings.Goals as goal

pub put_members-n-requires : goal.put_members-n-requires
put_members-n-requires c = let args = c.args in (
  omega (arith, c.requires, listed_first args.values _ c.listed.ensures args.at, length-append (members (0x47 ∷ []) 64 (member c.listed.result)) (cond (holds_value args.values unlisted) (0x48 ∷ []) [])),
  omega arith,
)

pub put-requires : goal.put-requires
put-requires c = let args = c.args in
    let e = strings_any args.values _ c.listed.ensures (sym c.takes_any.ensures ∙ c.if-takes_any.true) in
    let fits = writes_fits _ _ _ (0x48 ∷ []) _ _ c.put_members-n.ensures (rw e at c.requires) in
    omega (arith, fits)

pub returns-then-takes_any : goal.returns-then-takes_any
returns-then-takes_any c = writes_same _ _ _ _ _ _ (strings_any c.args.values _ c.listed.ensures (sym c.takes_any.ensures ∙ c.if-takes_any.true)) (writes_then _ _ _ _ _ _ _ _ c.put_members-n.ensures c.put.ensures)

pub returns : goal.returns
returns c = writes_same _ _ _ _ _ _ (strings_named c.args.values _ c.listed.ensures (sym c.takes_any.ensures ∙ c.if-takes_any.false)) c.put_members-n.ensures
