-- By the way in which the act makes the variable.
use Rattle.programs.specs.Program.{template_variable}
use Rattle.programs.specs.Inner.Promises.{as_act}
use Rattle.summaries.specs.Summaries.{held, under, entries}
use Rattle.covering.proofs.Steps.{template_listed, value_decides, fragment_decides, plugged_decides, filled_decides}
use Rattle.covering.proofs.Compared.template_holds.Goals as goal

pub returns-in-Value : goal.returns-in-Value
unfolding entries held
returns-in-Value c = let args = c.args in
    let step = args.step in
    record {
      decides = λ j S f.
          let l = template_listed args.self.now.s.now args.self.now.heads.now j.proposal step.next S.next_low S.next_entry args.x c.template_head-there.result.at f c.template_head-there.ensures in
          value_decides j args.self.now.s.now args.self.now.gaps.now args.self.now.heads.now step.point (as_act step.act) S.point args.x f _ c.entry_within.result c.template_made-made.result c.template_made-made.ensures _ c.in-Value.is c.template_head.result.at c.template_head.ensures
          (λ xs k. c.entry_within.ensures.decides xs (under j.proposal step.next (template_variable args.x)) k l);
      empty = c.entry_within.ensures.empty;
    }

pub returns-in-Template : goal.returns-in-Template
unfolding entries held
returns-in-Template c = let args = c.args in
    let step = args.step in
    record {
      decides = λ j S f.
          let l = template_listed args.self.now.s.now args.self.now.heads.now j.proposal step.next S.next_low S.next_entry args.x c.template_head-there.result.at f c.template_head-there.ensures in
          fragment_decides j args.self.now.s.now args.self.now.gaps.now args.self.now.heads.now step.point (as_act step.act) S.point args.x f _ c.fragment_within.result c.template_made-made.result c.template_made-made.ensures _ c.in-Template.is
          (λ φ g. c.fragment_within.ensures.decides φ (under j.proposal step.next (template_variable args.x)) g l);
      empty = c.fragment_within.ensures.empty;
    }

pub returns-in-Plugged : goal.returns-in-Plugged
unfolding entries held
returns-in-Plugged c = let args = c.args in
    let step = args.step in
    record {
      decides = λ j S f.
          let l = template_listed args.self.now.s.now args.self.now.heads.now j.proposal step.next S.next_low S.next_entry args.x c.template_head-there.result.at f c.template_head-there.ensures in
          plugged_decides j args.self.now.s.now args.self.now.gaps.now args.self.now.heads.now step.point (as_act step.act) S.point args.x f _ c.plug_within.result c.template_made-made.result c.template_made-made.ensures _ _ _ c.in-Plugged.is c.template_head-first.result.at c.template_head-second.result.at c.template_head-first.ensures c.template_head-second.ensures
          (λ xs ys k m. c.plug_within.ensures.decides xs ys (under j.proposal step.next (template_variable args.x)) k m l);
      empty = c.plug_within.ensures.empty;
    }

pub returns-in-Filled : goal.returns-in-Filled
unfolding entries held
returns-in-Filled c = let args = c.args in
    let step = args.step in
    record {
      decides = λ j S f.
          let l = template_listed args.self.now.s.now args.self.now.heads.now j.proposal step.next S.next_low S.next_entry args.x c.template_head-there.result.at f c.template_head-there.ensures in
          filled_decides j args.self.now.s.now args.self.now.gaps.now args.self.now.heads.now step.point (as_act step.act) S.point args.x f _ c.fill_within.result c.template_made-made.result c.template_made-made.ensures _ _ _ c.in-Filled.is c.template_head-from.result.at c.string_head.result.at c.template_head-from.ensures c.string_head.ensures c.strings_of-strings.result c.strings_of-strings.ensures
          (λ xs Y k e. c.fill_within.ensures.decides xs Y (under j.proposal step.next (template_variable args.x)) k e l);
      empty = c.fill_within.ensures.empty;
    }
