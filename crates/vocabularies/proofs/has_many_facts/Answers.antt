-- Too few bytes; or the facts are counted.
use mathlib.Core.Path.{refl}
use Rattle.vocabularies.proofs.FactCounts.{many_short, many_counted}
use Rattle.vocabularies.proofs.has_many_facts.Goals as goal

pub returns-then-end-start-le-MOST_FACTS : goal.returns-then-end-start-le-MOST_FACTS
returns-then-end-start-le-MOST_FACTS c = search many_short

pub returns : goal.returns
returns c = many_counted _ _ _ _ c.facts_of-facts.ensures _ refl
