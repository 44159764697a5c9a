-- The words of the points that there are become all variables.
use Rattle.solver.proofs.Starting.{all_filled}
use Rattle.solver.proofs.all_waiting.Goals as goal

pub returns : goal.returns
returns c = λ few. all_filled c.args.points c.min.result c.fill.new.self few c.min.ensures (c.fill.ensures.after (λ y e. e))
