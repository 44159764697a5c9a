-- By the statement.
use Rattle.programs.proofs.template_there.Goals as goal

pub returns-in-Step : goal.returns-in-Step
returns-in-Step c = rw c.in-Step.is c.act_template_there.ensures
