-- A member is as many bytes as the prefix and one more.
use native.Mathlib.Omega.{arith}
use Rattle.sets.specs.Sets.{member}
use Rattle.proposals.specs.Inner.Bytes.{prefix_bytes}
use Rattle.proposals.proofs.Members.{members_counted, members_most}
use Rattle.proposals.proofs.Prefix.members_length.Goals as goal

pub overflow_mul-result : goal.overflow_mul-result
overflow_mul-result c = let args = c.args in
    let e = members_counted (prefix_bytes args.self) (member args.set) args.below _ _ c.count_members.ensures c.length.ensures.0 in
    record { fits = rw e (omega (arith, members_most (prefix_bytes args.self) (member args.set) args.below c.requires (omega (arith, c.length.ensures)))) }

pub returns : goal.returns
returns c = members_counted _ _ _ _ _ c.count_members.ensures c.length.ensures.0
