-- What is held of the template is added to nothing.
use Rattle.graphs.specs.Inner.Graphs.{nothing}
use Rattle.solver.proofs.template_graph.Goals as goal

pub returns : goal.returns
returns c = λ φ g f. c.add_template.ensures φ nothing g f c.none-graph.ensures
