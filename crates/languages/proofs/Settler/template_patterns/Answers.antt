-- Template 0 is empty; the items of the others are walked.
use Rattle.languages.proofs.RoundLaws.{template_zero, template_list}
use Rattle.languages.proofs.Settler.template_patterns.Goals as goal

pub returns-then-n-eq0 : goal.returns-then-n-eq0
returns-then-n-eq0 c φs G M X shown are h = template_zero _ _ _ _ φs G M X shown _ c.if-n-eq0.true _ c.only.ensures

pub returns : goal.returns
returns c φs G M X shown are h = template_list _ _ _ _ φs G M X shown _ h c.if-n-eq0.false c.gaps_from-takes.result (c.gaps_from-takes.ensures φs G M X shown.few shown.lent.bounded shown.lent.keeps are) c.list_patterns.result
    (rw c.new.ensures at c.list_patterns.ensures.patterned)
