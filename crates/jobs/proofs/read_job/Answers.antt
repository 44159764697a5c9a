-- The script, then the proposal, if nothing follows it.
use Rattle.std.proofs.Common.{rules}
use Rattle.jobs.proofs.Parts.{script_refused, points_low, proposal_refused, job_longer, job_whole}
use Rattle.jobs.proofs.read_job.Goals as goal

pub returns-in_err-read : goal.returns-in_err-read
returns-in_err-read c = search (rules, script_refused c.args.s.now c.in_err-read.field-0.0 c.args.heads.now c.in_err-read.ensures)

pub read_proposal-requires : goal.read_proposal-requires
read_proposal-requires c = (points_low c.args.s.now c.in_ok-read.read c.in_ok-read.next c.in_ok-read.ensures, c.requires)

pub returns-in_err-end : goal.returns-in_err-end
returns-in_err-end c = search (rules, proposal_refused c.args.s.now c.in_ok-read.read c.in_ok-read.next c.in_ok-read.ensures _ _ c.in_err-end.ensures)

pub returns-in_err-ended : goal.returns-in_err-ended
returns-in_err-ended c = search (rules, job_longer c.args.s.now c.in_ok-read.read c.in_ok-read.next c.in_ok-read.ensures _ c.in_ok-end.end c.in_ok-end.ensures _ c.in_err-ended.ensures)

pub returns : goal.returns
returns c = job_whole c.args.s.now c.in_ok-read.read c.in_ok-read.next c.in_ok-read.ensures _ c.in_ok-end.end c.in_ok-end.ensures c.in_ok-ended.ensures
