-- Each item is read where the list stands, so its measure lies just below that of a list there, and a list inside an element stands
-- further on. What is read from the loop's position on goes on what was read before it.
use Prim.Native.Nat.{◌+◌, ◌-◌, ◌≤◌}
use lib.ListN.{length}
use Rattle.sets.specs.Sets.{member}
use Rattle.std.specs.Prelude.{Result}
use Rattle.commands.specs.declared.Position.{Position}
use Rattle.commands.specs.declared.ReadError.{ReadError}
use Rattle.pages.specs.Inner.Promises.{ItemsRead}
use Rattle.pages.proofs.Reading.+read_item_read_items.Given as goal

abbrev pub decreases-read_item : goal.decreases-read_item
decreases-read_item l = (length l.self.s.now - l.here.at) + (length l.self.s.now - l.here.at)

abbrev pub decreases-read_items : goal.decreases-read_items
decreases-read_items l = (length l.self.s.now - l.here.at) + (length l.self.s.now - l.here.at) + 1

abbrev pub invariant-read_items-loop-next : goal.invariant-read_items-loop-next
invariant-read_items-loop-next l = (l.initial.p.at ≤ l.p.at) × ((r : Result Position ReadError) → ItemsRead l.kind (member l.self.declared) l.self.s.now l.depth l.p.at r → ItemsRead l.kind (member l.self.declared) l.self.s.now l.depth l.initial.p.at r)

abbrev pub decreases-read_items-loop-next : goal.decreases-read_items-loop-next
decreases-read_items-loop-next l = length l.self.s.now - l.p.at
