-- Where one of the two does not stand, it stands before or after nothing; otherwise their places tell.
use Rattle.judging.proofs.WordLaws.{member_small}
use Rattle.judging.proofs.is_ordered.Goals as goal

pub bounds-order-i : goal.bounds-order-i
bounds-order-i c = member_small _ _ c.ranges.contents.fits (rw (← c.is_member.ensures) c.if-not-is_member.false)

pub bounds-order-j : goal.bounds-order-j
bounds-order-j c = member_small _ _ c.ranges.contents.fits (rw (← c.is_member-2.ensures) c.if-not-is_member-2.false)
