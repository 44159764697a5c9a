-- The words are those of a graph or of a string variable.
use Rattle.states.proofs.Same.{same_template, same_string}
use Rattle.states.proofs.same_entry.Goals as goal

pub returns-then-v-lt4 : goal.returns-then-v-lt4
returns-then-v-lt4 c = λ e points l m.
    let args = c.args in
    same_template points args.work.now args.p args.q l m _ _ args.v c.if-v-lt4.true c.graph_place.ensures c.graph_place-then-v-lt4.ensures (c.same_words.ensures e)

pub returns : goal.returns
returns c = λ e points l m.
    let args = c.args in
    same_string points args.work.now args.p args.q l m _ _ args.v c.if-v-lt4.false c.requires.2 c.strings_place.ensures c.strings_place-2.ensures (c.same_words-2.ensures e)
