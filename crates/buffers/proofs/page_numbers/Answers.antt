-- The verdict of the bytes that were read is that of the two inputs.
use Rattle.buffers.proofs.Laws.{page_numbers}
use Rattle.buffers.proofs.page_numbers.Goals as goal

pub returns-clause-verdict : goal.returns-clause-verdict
returns-clause-verdict c =
    page_numbers _ _ _ _ c.requires.vocabulary_len.0 c.requires.page_len.0 c.judge.result c.judge.ensures.verdict _ c.numbers_of.ensures
