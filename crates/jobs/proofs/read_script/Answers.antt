-- Each answer is the one that its parts lead to.
use Rattle.std.proofs.Common.{rules}
use Rattle.jobs.proofs.Parts.{vocabulary_refuses, VocabularyThere, templates_refuse, TemplatesThere, program_refuses, program_last}
use Rattle.jobs.proofs.read_script.Goals as goal

pub returns-in_err-tables : goal.returns-in_err-tables
returns-in_err-tables c = search (rules, vocabulary_refuses c.args.s.now _ c.in_ok-not_too_many.ensures c.in_err-tables.ensures)

pub returns-in_err-templates : goal.returns-in_err-templates
returns-in_err-templates c =
    let there : VocabularyThere c.args.s.now c.in_ok-tables.tables c.in_ok-tables.next = record { fits = c.in_ok-not_too_many.ensures; reads = c.in_ok-tables.ensures } in
    search (rules, templates_refuse there _ c.in_err-templates.ensures)

pub returns-in_err-points : goal.returns-in_err-points
returns-in_err-points c =
    let there : VocabularyThere c.args.s.now c.in_ok-tables.tables c.in_ok-tables.next = record { fits = c.in_ok-not_too_many.ensures; reads = c.in_ok-tables.ensures } in
    let both : TemplatesThere c.args.s.now c.in_ok-tables.tables c.in_ok-tables.next c.in_ok-templates.templates c.in_ok-templates.next = record { before = there; reads = c.in_ok-templates.ensures } in
    search (rules, program_refuses both _ c.in_err-points.ensures)

pub returns : goal.returns
returns c =
    let there : VocabularyThere c.args.s.now c.in_ok-tables.tables c.in_ok-tables.next = record { fits = c.in_ok-not_too_many.ensures; reads = c.in_ok-tables.ensures } in
    let both : TemplatesThere c.args.s.now c.in_ok-tables.tables c.in_ok-tables.next c.in_ok-templates.templates c.in_ok-templates.next = record { before = there; reads = c.in_ok-templates.ensures } in
    program_last both c.in_ok-points.points c.in_ok-points.end c.in_ok-points.ensures
