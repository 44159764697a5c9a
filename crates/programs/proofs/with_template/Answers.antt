-- Template variables stand below the string variables.
use Rattle.programs.proofs.Naming.{adds_template}
use Rattle.programs.proofs.with_template.Goals as goal

pub returns : goal.returns
returns c = search adds_template
