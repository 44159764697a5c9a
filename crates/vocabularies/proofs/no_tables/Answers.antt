-- No element has a rule.
use mathlib.Core.Path.{refl}
use Rattle.vocabularies.proofs.Rules.{no_rules}
use Rattle.vocabularies.proofs.no_tables.Goals as goal

pub returns : goal.returns
returns c = record {
  long = refl;
  empty = λ s. no_rules s _ refl;
}
