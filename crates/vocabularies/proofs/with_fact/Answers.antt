-- The fact is there, or is put behind the others; a ninth is counted and not kept.
use Rattle.vocabularies.proofs.FactLists.{adds_present, adds_above, adds_ninth, adds_new}
use Rattle.vocabularies.proofs.with_fact.Goals as goal

pub returns-then-count-gt-MOST_FACTS : goal.returns-then-count-gt-MOST_FACTS
returns-then-count-gt-MOST_FACTS c = search adds_above

pub returns-then-is_among : goal.returns-then-is_among
returns-then-is_among c = search adds_present

pub returns-then-count-lt-MOST_FACTS : goal.returns-then-count-lt-MOST_FACTS
returns-then-count-lt-MOST_FACTS c = search adds_new

pub returns-else-count-lt-MOST_FACTS : goal.returns-else-count-lt-MOST_FACTS
returns-else-count-lt-MOST_FACTS c = search adds_ninth
