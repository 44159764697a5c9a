use mathlib.Core.Path.{refl}
use native.Mathlib.Omega.{arith}
use borrow.Author.Rules.{rules}
use Rattle.pages.proofs.TemplateAgreement.{done_none, done_refused, done_end, done_many, done_template_refused, done_later, done_more}
use Rattle.pages.proofs.read_templates.Goals as goal

pub loop-code-init : goal.loop-code-init
loop-code-init c = done_none _ _ _ _ refl

pub returns-in_default : goal.returns-in_default
returns-in_default c = search done_refused

pub returns-then-code-eq47 : goal.returns-then-code-eq47
returns-then-code-eq47 c = search done_end

pub returns-then-count-ge-MOST_TEMPLATES : goal.returns-then-count-ge-MOST_TEMPLATES
returns-then-count-ge-MOST_TEMPLATES c = search done_many

pub bounds-starts-count : goal.bounds-starts-count
bounds-starts-count c = omega (arith, c.loop-code.invariant.wide)

pub returns-in_err-p : goal.returns-in_err-p
returns-in_err-p c =
    search (rules, done_template_refused _ _ _ _ _ _ c.loop-code.invariant _ c.command-d.ensures _ _ c.in-Moved.is c.if-code-eq47.false c.if-count-ge-MOST_TEMPLATES.false _ c.read_items.ensures _ c.in_err-p.was)

pub loop-code-smaller : goal.loop-code-smaller
loop-code-smaller c =
    done_later _ _ _ _ _ _ c.loop-code.invariant _ c.command-d.ensures _ _ c.in-Moved.is c.if-code-eq47.false c.if-count-ge-MOST_TEMPLATES.false _ c.read_items.ensures _ c.in_ok-p.was

pub loop-code-preserved : goal.loop-code-preserved
loop-code-preserved c =
    done_more _ _ _ _ _ _ c.loop-code.invariant _ c.command-d.ensures _ _ c.in-Moved.is c.if-code-eq47.false c.if-count-ge-MOST_TEMPLATES.false _ c.read_items.ensures _ c.in_ok-p.was
