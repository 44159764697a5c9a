-- Each answer is the one that its tests lead to.
use Rattle.programs.proofs.Here.{here_refused, here_ends, here_missing, here_too_many, here_moves}
use Rattle.programs.proofs.statement_here.Goals as goal

pub returns-in_default : goal.returns-in_default
returns-in_default c = search here_refused

pub returns-then-code-eq63 : goal.returns-then-code-eq63
returns-then-code-eq63 c = search here_ends

pub returns-then-not-template_there : goal.returns-then-not-template_there
returns-then-not-template_there c = search here_missing

pub returns-then-before-ge-MOST_POINTS : goal.returns-then-before-ge-MOST_POINTS
returns-then-before-ge-MOST_POINTS c = search here_too_many

pub returns : goal.returns
returns c = search here_moves
