-- A step names what its act names, `38` names nothing.
use Rattle.programs.proofs.Naming.{statement_fits_as, no_names}
use Rattle.programs.proofs.named_by.Goals as goal

pub act_names-requires : goal.act_names-requires
act_names-requires c = statement_fits_as _ _ c.in-Step.is c.requires

pub returns-in-Step : goal.returns-in-Step
returns-in-Step c = rw c.in-Step.is c.act_names.ensures

pub returns-in-Stop : goal.returns-in-Stop
returns-in-Stop c = rw c.in-Stop.is no_names
