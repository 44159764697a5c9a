-- The verdict of the bytes that were read is the input's.
use Rattle.buffers.proofs.Laws.{job_numbers}
use Rattle.buffers.proofs.job_numbers.Goals as goal

pub returns-clause-verdict : goal.returns-clause-verdict
returns-clause-verdict c = job_numbers _ _ c.requires.0 c.check.result c.check.ensures.verdict _ c.numbers_of.ensures
