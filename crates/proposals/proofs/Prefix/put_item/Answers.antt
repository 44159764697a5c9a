-- The prefix, then the member.
use mathlib.Core.List.{[], ◌∷◌}
use Rattle.memory.proofs.Laid.{writes_then}
use Rattle.proposals.specs.Inner.Bytes.{prefix_bytes}
use Rattle.proposals.proofs.Prefix.put_item.Goals as goal

pub returns : goal.returns
returns c = writes_then _ _ (prefix_bytes c.args.self) (c.args.k ∷ []) _ _ _ _ c.put-n.ensures c.put.ensures
