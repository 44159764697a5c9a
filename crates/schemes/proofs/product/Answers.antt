-- One side is the empty word alone; or the classes, or the flags by the smaller set.
use Rattle.schemes.proofs.Products.{unit_before, unit_after, product_root, product_left, product_right}
use Rattle.schemes.proofs.product.Goals as goal

pub returns-then-same : goal.returns-then-same
returns-then-same c = unit_before c.args.r c.args.a c.args.b _ c.only-empty.ensures c.same.result c.if-same.true c.same.ensures

pub returns-then-same-2 : goal.returns-then-same-2
returns-then-same-2 c = unit_after c.args.r c.args.a c.args.b _ c.only-empty.ensures c.same-2.result c.if-same-2.true c.same-2.ensures

pub returns-in-Root : goal.returns-in-Root
returns-in-Root c = rw c.in-Root.is (product_root c.args.a c.args.b c.joined_classes.result c.in-Root.field-0 c.joined_classes.ensures)

pub returns-then-members : goal.returns-then-members
returns-then-members c = rw c.in-Facts.is (product_right c.args.a c.args.b c.joined_sets.result c.in-Facts.places c.joined_sets.ensures)

pub returns-else-members : goal.returns-else-members
returns-else-members c = rw c.in-Facts.is (product_left c.args.a c.args.b c.joined_sets-in-Facts.result c.in-Facts.places c.joined_sets-in-Facts.ensures)
