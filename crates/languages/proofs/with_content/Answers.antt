-- The content changes nothing, or there is a new set.
use Rattle.languages.proofs.Lines.{content_kept, content_new}
use Rattle.languages.proofs.with_content.Goals as goal

pub returns-then-same : goal.returns-then-same
returns-then-same c = let a = c.args in
    content_kept a.r a.line a.c c.requires _ c.single.ensures _ c.followed-more.ensures c.same.result c.if-same.true c.same.ensures _ _ c.with.ensures c.without.ensures

pub returns : goal.returns
returns c = let a = c.args in
    content_new a.r a.line a.c c.requires _ c.single.ensures _ c.followed-more.ensures _ c.line_of.ensures
