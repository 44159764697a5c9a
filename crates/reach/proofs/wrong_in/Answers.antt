-- The walk over the template, with the contents that its gaps can bring.
use Rattle.vocabularies.specs.Vocabulary.{declared}
use Rattle.reach.proofs.wrong_in.Goals as goal

pub returns : goal.returns
returns c = λ φs G C D count kept rules is f end φ reads.
    (c.walk_items.ensures.walked (declared D.rules) f 0 end φ (rw c.new.ensures reads)).finds φs G C D rules (record { keeps = kept.keeps; brought = c.brings_of-brings.ensures φs G C count kept is }) (λ e h. h)
