-- A refusal of the reading, or what is found for the job that was read.
use Rattle.checker.proofs.Reading.{refused, read_whole}
use Rattle.checker.proofs.check_job.Goals as goal

pub returns-in-Ok : goal.returns-in-Ok
returns-in-Ok c = read_whole _ _ c.read_job.result c.read_job.ensures _ _ c.in-Ok.is _ c.check_read.ensures

pub returns-in-Err : goal.returns-in-Err
returns-in-Err c = refused _ _ c.read_job.result c.read_job.ensures _ c.in-Err.is _ c.unreadable.ensures
