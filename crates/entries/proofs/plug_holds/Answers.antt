-- The plug is what passes of the two entries.
use Rattle.summaries.specs.Summaries.{says_claim, held}
use Rattle.entries.proofs.Transfers.{way_decides, plug_fails, plug_decides}
use Rattle.entries.proofs.plug_holds.Goals as goal

pub returns-else-items_hold : goal.returns-else-items_hold
returns-else-items_hold c = λ xs ys R l m k.
    plug_fails c.args.gap c.roots_of-roots.result (held says_claim xs) (held says_claim ys) (c.roots_of-roots.ensures ys m) R c.items_hold.result c.if-items_hold.false
    (way_decides _ _ c.plugging.ensures _ R _ (c.items_hold.ensures xs R l k))

pub returns-then-items_hold : goal.returns-then-items_hold
returns-then-items_hold c = λ xs ys R l m k.
    plug_decides c.args.gap c.roots_of-roots.result (held says_claim xs) (held says_claim ys) (c.roots_of-roots.ensures ys m) R c.items_hold.result c.items_hold-then-items_hold.result c.if-items_hold.true
    (way_decides _ _ c.plugging.ensures _ R _ (c.items_hold.ensures xs R l k)) (way_decides _ _ c.without_roots.ensures _ R _ (c.items_hold-then-items_hold.ensures ys R m k))
