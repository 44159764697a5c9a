-- Anything may change it.
use Rattle.languages.proofs.Lines.{line_of}
use Rattle.languages.proofs.line_of.Goals as goal

pub returns : goal.returns
returns c = line_of _
