use Prim.Native.Nat.{◌+◌}
use mathlib.Core.Path.{◌≡◌, refl, sym, ◌∙◌}
use mathlib.Core.List.{[], ◌∷◌}
use native.Mathlib.Omega.{arith}
use Rattle.sets.proofs.Laws.{member_zero}
use Rattle.commands.specs.declared.Decoded.TheVariants.{Moved}
use Rattle.commands.specs.Commands.{byte, command}
use Rattle.commands.proofs.Laws.{moved}
use Rattle.vocabularies.specs.Vocabulary.{is_in}
use Rattle.pages.proofs.Laws.{attribute_range}
use Rattle.pages.proofs.Agreement.{attributes_end, attributes_refused, attributes_twice, attributes_next, string_permitted}
use Rattle.pages.proofs.Reading.read_attributes.Goals as goal

pub loop-context-init : goal.loop-context-init
unfolding is_in
loop-context-init c = ([], member_zero, λ k e r h. h)

pub attribute_command-d-requires : goal.attribute_command-d-requires
attribute_command-d-requires c = rw c.allowed-context.ensures.attributes (string_permitted c.args.kind)

pub returns-in_default : goal.returns-in_default
returns-in_default c = c.loop-context.invariant.2 _ c.allowed-context.ensures.attributes _
    (attributes_refused _ _ c.allowed-context.ensures.attributes _ _ _ _ c.loop-context.invariant.1 _ c.byte_at.ensures _ c.is_allowed.ensures c.loop-context-test.true _ c.attribute_command-d.ensures _ c.refusal.ensures)

pub has-requires : goal.has-requires
has-requires c =
    let stands : command c.allowed-context.result.attributes c.args.self.s.now c.loop-context.p.at ≡ Moved c.in-Moved.field-0 c.in-Moved.next = sym c.attribute_command-d.ensures ∙ c.in-Moved.is in
    let most = attribute_range c.args.kind _ _ _ _ (rw c.allowed-context.ensures.attributes at stands) in
    omega (arith, c.operand-name.ensures)

pub loop-context-preserved : goal.loop-context-preserved
unfolding is_in
loop-context-preserved c =
    let inv = c.loop-context.invariant in (
      byte c.args.self.s.now (c.loop-context.p.at + 1) ∷ inv.0,
      λ a. c.with-seen.ensures a ∙ rw (c.operand-name.ensures, inv.1 a),
      λ k is r h. inv.2 k is r (attributes_next _ _ is _ _ _ _ inv.1 _ c.byte_at.ensures _ c.is_allowed.ensures c.loop-context-test.true
          _ c.attribute_command-d.ensures _ _ c.in-Moved.is _ c.operand-name.ensures _ c.has.ensures c.if-has.false r h),
    )

pub returns-then-has : goal.returns-then-has
returns-then-has c = c.loop-context.invariant.2 _ c.allowed-context.ensures.attributes _
    (attributes_twice _ _ c.allowed-context.ensures.attributes _ _ _ _ c.loop-context.invariant.1 _ c.byte_at.ensures _ c.is_allowed.ensures c.loop-context-test.true
    _ c.attribute_command-d.ensures _ _ c.in-Moved.is _ c.operand-name.ensures _ c.has.ensures c.if-has.true)

pub with-seen-requires : goal.with-seen-requires
with-seen-requires c =
    let stands : command c.allowed-context.result.attributes c.args.self.s.now c.loop-context.p.at ≡ Moved c.in-Moved.field-0 c.in-Moved.next = sym c.attribute_command-d.ensures ∙ c.in-Moved.is in
    let most = attribute_range c.args.kind _ _ _ _ (rw c.allowed-context.ensures.attributes at stands) in
    omega (arith, c.operand-name.ensures)

pub loop-context-smaller : goal.loop-context-smaller
loop-context-smaller c =
    let stands : command c.allowed-context.result.attributes c.args.self.s.now c.loop-context.p.at ≡ Moved c.in-Moved.field-0 c.in-Moved.next = sym c.attribute_command-d.ensures ∙ c.in-Moved.is in
    let m = moved _ _ _ _ _ stands in
    omega (arith, m.forward, m.inside)

pub returns : goal.returns
returns c = c.loop-context.invariant.2 _ c.allowed-context.ensures.attributes _
    (attributes_end _ _ c.allowed-context.ensures.attributes _ _ _ _ c.loop-context.invariant.1 _ c.byte_at.ensures _ c.is_allowed.ensures c.loop-context-test.false _ refl)
