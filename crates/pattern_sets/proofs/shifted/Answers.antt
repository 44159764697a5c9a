-- Words are shifted, or moved.
use native.Mathlib.Omega.{arith}
use Rattle.pattern_sets.proofs.Shifting.{shift_count, shift_small, shifts_words, shifts_one, shifts_two}
use Rattle.pattern_sets.proofs.shifted.Goals as goal

pub returns-then-i-eq7 : goal.returns-then-i-eq7
returns-then-i-eq7 c = rw c.if-i-eq7.true (shifts_two c.args.set)

pub returns-then-i-eq6 : goal.returns-then-i-eq6
returns-then-i-eq6 c = rw c.if-i-eq6.true (shifts_one c.args.set)

pub shifted_word-requires : goal.shifted_word-requires
shifted_word-requires c = shift_small c.args.i (omega arith)

pub shifted_word-requires-2 : goal.shifted_word-requires-2
shifted_word-requires-2 c = shift_small c.args.i (omega arith)

pub shifted_word-requires-3 : goal.shifted_word-requires-3
shifted_word-requires-3 c = shift_small c.args.i (omega arith)

pub shifted_word-requires-4 : goal.shifted_word-requires-4
shifted_word-requires-4 c = shift_small c.args.i (omega arith)

pub returns : goal.returns
returns c = shifts_words c.args.set c.args.i _ (omega arith) (shift_count c.args.i (omega arith)) _ _ _ _
    c.shifted_word.ensures c.shifted_word-2.ensures c.shifted_word-3.ensures c.shifted_word-4.ensures
