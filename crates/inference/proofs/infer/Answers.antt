-- A refusal of the reading or of the work area, or what is written out of the entries worked out.
use mathlib.Core.Path.{refl}
use borrow.Author.Rules.{rules}
use Rattle.std.specs.Prelude.{Ok}
use Rattle.jobs.specs.Inner.Promises.{SliceReads}
use Rattle.inference.proofs.Answers.{are_bytes_lem, told_answers, told_read, short_answers, tables_are, written_answers}
use Rattle.inference.proofs.infer.Goals as goal

pub returns-in_err-read : goal.returns-in_err-read
returns-in_err-read c =
    let a = told_answers c.args.job.now c.args.work.now c.args.buffer.now c.args.place _ c.read_script_slice.result c.map_err.result c.map_err.ensures.cases _ c.in_err-read.was (λ e h. search rules) c.read_script_slice.ensures c.from_residual.result (search rules) in
    record { answer = a.0; untouched = refl; accepted_if_any = a.1 }

pub returns-then-work-lt-WORK_WORDS : goal.returns-then-work-lt-WORK_WORDS
returns-then-work-lt-WORK_WORDS c =
    let reads : SliceReads c.args.job.now (Ok (c.in_ok-read.read, _)) = told_read _ _ c.read_script_slice.result c.map_err.result c.map_err.ensures.cases _ c.in_ok-read.was c.read_script_slice.ensures in
    let a = short_answers c.args.job.now c.args.work.now c.args.buffer.now c.args.place _ _ reads (search rules) in
    record { answer = a.0; untouched = refl; accepted_if_any = a.1 }

pub work_out-requires : goal.work_out-requires
work_out-requires c =
    let reads : SliceReads c.args.job.now (Ok (c.in_ok-read.read, _)) = told_read _ _ c.read_script_slice.result c.map_err.result c.map_err.ensures.cases _ c.in_ok-read.was c.read_script_slice.ensures in
    (search rules, (tables_are c.args.job.now c.args.work.now c.args.buffer.now c.args.place _ _ reads).few_points)

pub write_out-answer-requires : goal.write_out-answer-requires
write_out-answer-requires c =
    let reads : SliceReads c.args.job.now (Ok (c.in_ok-read.read, _)) = told_read _ _ c.read_script_slice.result c.map_err.result c.map_err.ensures.cases _ c.in_ok-read.was c.read_script_slice.ensures in
    let T = tables_are c.args.job.now c.args.work.now c.args.buffer.now c.args.place _ _ reads in
    (search rules, T.few_templates, T.few_points)

pub returns : goal.returns
returns c =
    let reads : SliceReads c.args.job.now (Ok (c.in_ok-read.read, _)) = told_read _ _ c.read_script_slice.result c.map_err.result c.map_err.ensures.cases _ c.in_ok-read.was c.read_script_slice.ensures in
    let a = written_answers c.args.job.now c.args.work.now c.args.buffer.now c.args.place _ _ reads (are_bytes_lem _ (λ i. (c.type_inv.job i).fits)) (search rules) _ c.work_out.ensures _ _ c.clear.new.words c.write_out-answer.ensures c.clear.ensures (search rules) in
    record { answer = a.0; untouched = refl; accepted_if_any = a.1 }
