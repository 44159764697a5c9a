-- The script, if nothing follows it.
use Rattle.std.proofs.Common.{rules}
use Rattle.jobs.proofs.Parts.{slice_refused, slice_longer, slice_whole}
use Rattle.jobs.proofs.read_script_slice.Goals as goal

pub returns-in_err-read : goal.returns-in_err-read
returns-in_err-read c = search (rules, slice_refused c.args.s.now c.in_err-read.field-0.0 c.in_err-read.ensures)

pub returns-in_err-ended : goal.returns-in_err-ended
returns-in_err-ended c = search (rules, slice_longer c.args.s.now c.in_ok-read.read c.in_ok-read.end c.in_ok-read.ensures c.in_err-ended.field-0.0 c.in_err-ended.ensures)

pub returns : goal.returns
returns c = slice_whole c.args.s.now c.in_ok-read.read c.in_ok-read.end c.in_ok-read.ensures c.in_ok-ended.ensures
