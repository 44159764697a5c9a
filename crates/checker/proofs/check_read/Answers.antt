-- 9 and 10 where the covering fails, else what the shows give.
use mathlib.Core.Path.{◌≡◌}
use Rattle.std.proofs.Common.{Err, rules}
use Rattle.verdicts.specs.declared.Refusal.TheVariants as Refusals
use Rattle.jobs.proofs.Told.{TellsAs, told_err, told_ok}
use Rattle.jobs.proofs.Tables.{gaps_table}
use Rattle.covering.proofs.Laws.{tables_of}
use Rattle.checker.proofs.Reading.{uncovered, covered, read_at}
use Rattle.checker.proofs.check_read.Goals as goal

pub returns-in_err-map_err : goal.returns-in_err-map_err
returns-in_err-map_err c j end reads K =
    let tells : TellsAs Refusals.Cover c.first_uncovered.result c.map_err.result = search rules in
    let up : c.from_residual.result ≡ Err c.in_err-map_err.field-0.0 = search rules in
    let (cover, is, told) = told_err Refusals.Cover c.first_uncovered.result c.map_err.result tells _ c.in_err-map_err.was in
    let gaps = gaps_table j.script _ _ _ _ _ _ (tables_of _ _ j end _ reads K).of_script c.gaps_of-gaps.result c.gaps_of-gaps.ensures in
    rw (up, told) (uncovered c.first_uncovered.result (c.first_uncovered.ensures j _ _ (tables_of _ _ j end _ reads K) gaps) cover is)

pub returns : goal.returns
returns c j end reads K =
    let tells : TellsAs Refusals.Cover c.first_uncovered.result c.map_err.result = search rules in
    let is = told_ok Refusals.Cover c.first_uncovered.result c.map_err.result tells _ c.in_ok-map_err.was in
    let gaps = gaps_table j.script _ _ _ _ _ _ (tables_of _ _ j end _ reads K).of_script c.gaps_of-gaps.result c.gaps_of-gaps.ensures in
    c.first_fault.ensures j (read_at _ j end reads _ _ K c.gaps_of-gaps.result gaps c.tables_of-tables.result c.tables_of-tables.ensures)
    (covered c.first_uncovered.result (c.first_uncovered.ensures j _ _ (tables_of _ _ j end _ reads K) gaps) _ is)
