-- No pattern is left; or its content changes nothing; or it is one content more.
use mathlib.Core.Path.{sym, ◌∙◌}
use Rattle.languages.proofs.Lines.{content_absent, element_content}
use Rattle.languages.proofs.with_element.Goals as goal

pub returns-then-not-has : goal.returns-then-not-has
returns-then-not-has c = let args = c.args in
    element_content args.r args.line args.e args.line args.yields c.if-not-yields.false (content_absent args.r args.line args.e c.requires (sym c.has.ensures ∙ c.if-not-has.true))
