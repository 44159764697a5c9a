-- The vocabulary, the page, and then the judgement.
use Rattle.std.proofs.Common.{rules}
use Rattle.jobs.proofs.Told.{TellsAs, unreadable_at}
use Rattle.judge.proofs.PageLaws.{vocabulary_refused, page_refused, page_judged}
use Rattle.judge.proofs.judge_slices.Goals as goal

pub returns-in_err-tables : goal.returns-in_err-tables
returns-in_err-tables c =
    let tells : TellsAs (unreadable_at 0) c.read_vocabulary.result c.map_err.result = search rules in
    search (rules, vocabulary_refused _ c.args.page.now _ c.read_vocabulary.ensures _ tells _ c.in_err-tables.was)

pub returns-in_err-map_err : goal.returns-in_err-map_err
returns-in_err-map_err c =
    let tells : TellsAs (unreadable_at 0) c.read_vocabulary.result c.map_err.result = search rules in
    let tells_page : TellsAs (unreadable_at 1) c.read_page.result c.map_err-2.result = search rules in
    search (rules, page_refused _ c.args.page.now _ c.read_vocabulary.ensures _ tells _ _ c.in_ok-tables.was _ c.read_page.ensures _ tells_page _ c.in_err-map_err.was)

pub returns : goal.returns
returns c =
    let tells : TellsAs (unreadable_at 0) c.read_vocabulary.result c.map_err.result = search rules in
    let tells_page : TellsAs (unreadable_at 1) c.read_page.result c.map_err-2.result = search rules in
    page_judged _ _ _ c.read_vocabulary.ensures _ tells _ _ c.in_ok-tables.was _ c.read_page.ensures _ tells_page _ c.in_ok-map_err.was _ c.judge_read.ensures
