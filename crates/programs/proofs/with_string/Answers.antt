-- String variables stand above the template variables.
use Rattle.programs.proofs.Naming.{adds_string}
use Rattle.programs.proofs.with_string.Goals as goal

pub returns : goal.returns
returns c = search adds_string
