-- The outcome for the bytes that were read is the input's.
use Rattle.script_buffers.proofs.Laws.{script_outcome}
use Rattle.script_buffers.proofs.infer_script.Goals as goal

pub returns-clause-outcome : goal.returns-clause-outcome
returns-clause-outcome c = script_outcome _ _ c.requires.0 _ c.infer.ensures.answer
