-- Blank text, an element, the root, blank text, nothing after it; then the element's own judgement.
use mathlib.Core.Path.{ap}
use Rattle.std.proofs.Common.{◌≡◌, Err, rules}
use Rattle.verdicts.specs.declared.Verdict.TheVariants.{Refused}
use Rattle.judge.proofs.PageLaws.{no_element_first, other_root_first, root_judged, not_alone, is_alone_then}
use Rattle.judge.proofs.judge_read.Goals as goal

pub returns-in_default : goal.returns-in_default
returns-in_default c = no_element_first _ _ _ _ c.after_blank-start.result (rw c.new.ensures at c.after_blank-start.ensures) c.item_here-first.result c.item_here-first.ensures.is (ap Refused c.not_root.ensures) c.in_default.not-Element

pub returns-then-e-tables : goal.returns-then-e-tables
returns-then-e-tables c = other_root_first _ _ _ _ c.after_blank-start.result (rw c.new.ensures at c.after_blank-start.ensures) c.item_here-first.result c.item_here-first.ensures.is _ _ c.in-Element.is (ap Refused c.not_root-then-e-tables.ensures) c.if-e-tables.true

pub returns-in_err-page_end : goal.returns-in_err-page_end
returns-in_err-page_end c =
    let up : c.from_residual.result ≡ Err c.in_err-page_end.field-0.0 = search rules in
    rw up (root_judged _ _ _ _ c.after_blank-start.result (rw c.new.ensures at c.after_blank-start.ensures) c.item_here-first.result c.item_here-first.ensures.is _ _ c.in-Element.is c.judge_item-root.result (λ D H. c.judge_item-root.ensures.judged D H.rule) c.after_blank-last.result c.after_blank-last.ensures
    c.if-e-tables.false (not_alone _ _ _ c.in_err-page_end.ensures))

pub returns : goal.returns
returns c = root_judged _ _ _ _ c.after_blank-start.result (rw c.new.ensures at c.after_blank-start.ensures) c.item_here-first.result c.item_here-first.ensures.is _ _ c.in-Element.is c.judge_item-root.result (λ D H. c.judge_item-root.ensures.judged D H.rule) c.after_blank-last.result c.after_blank-last.ensures
    c.if-e-tables.false (is_alone_then _ _ _ c.in_ok-page_end.ensures c.wrong_element.ensures)
