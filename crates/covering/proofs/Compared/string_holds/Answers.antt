-- By the way in which the act makes the variable.
use Rattle.programs.specs.Program.{string_variable}
use Rattle.programs.specs.Inner.Promises.{as_act}
use Rattle.summaries.specs.Summaries.{held, under, entries}
use Rattle.covering.proofs.Steps.{string_listed, string_value_decides, one_decides, any_decides}
use Rattle.covering.proofs.Compared.string_holds.Goals as goal

pub returns-in-Value : goal.returns-in-Value
unfolding entries held
returns-in-Value c = λ j gaps S f.
    let args = c.args in
    let step = args.step in
    let l = string_listed args.self.now.s.now args.self.now.heads.now j.proposal step.next S.next_low S.next_entry args.y c.string_head-there.result.at f c.string_head-there.ensures in
    string_value_decides j args.self.now.s.now gaps args.self.now.heads.now step.point (as_act step.act) S.point args.y f _ c.strings_entry_within.result c.string_made-made.result c.string_made-made.ensures _ c.in-Value.is c.string_head.result.at c.string_head.ensures (λ xs k. c.strings_entry_within.ensures xs (under j.proposal step.next (string_variable args.y)) k l)

pub returns-in-One : goal.returns-in-One
unfolding entries held
returns-in-One c = λ j gaps S f.
    let args = c.args in
    let step = args.step in
    let l = string_listed args.self.now.s.now args.self.now.heads.now j.proposal step.next S.next_low S.next_entry args.y c.string_head-there.result.at f c.string_head-there.ensures in
    one_decides j args.self.now.s.now gaps args.self.now.heads.now step.point (as_act step.act) S.point args.y f _ c.values_within.result c.string_made-made.result c.string_made-made.ensures c.one_value-one.result c.strings_of.result c.values_within.ensures (c.strings_of.ensures (under j.proposal step.next (string_variable args.y)) l) _ c.in-One.is c.one_value-one.ensures

pub returns-in-Any : goal.returns-in-Any
unfolding entries held
returns-in-Any c = λ j gaps S f.
    let args = c.args in
    let step = args.step in
    let l = string_listed args.self.now.s.now args.self.now.heads.now j.proposal step.next S.next_low S.next_entry args.y c.string_head-there.result.at f c.string_head-there.ensures in
    any_decides j args.self.now.s.now gaps args.self.now.heads.now step.point (as_act step.act) S.point args.y f _ c.values_within-in-Any.result c.string_made-made.result c.string_made-made.ensures c.any_value.result c.strings_of-in-Any.result c.values_within-in-Any.ensures (c.strings_of-in-Any.ensures (under j.proposal step.next (string_variable args.y)) l) c.in-Any.is c.any_value.ensures
