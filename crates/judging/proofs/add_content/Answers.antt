-- The tables with one content more. A set has at most 64 members, so the count fits its byte.
use mathlib.Core.Path.{◌≡◌, sym, ◌∙◌}
use mathlib.Core.Bool.{true, false}
use native.Mathlib.Omega.{arith}
use lib.ListN.{length-set}
use Rattle.sets.specs.Sets.{member}
use Rattle.sets.proofs.Counts.{count_most}
use Rattle.vocabularies.specs.Vocabulary.{is_in}
use Rattle.judging.proofs.WordLaws.{one_content, with_held, counted_more}
use Rattle.judging.proofs.add_content.Goals as goal

pub returns-then-has : goal.returns-then-has
returns-then-has c = let a = c.args in
    let p = c.requires in
    let is : member a.inside.set a.c ≡ true = sym c.has.ensures ∙ c.if-has.true in
    record {
      long = simp length-set p.0;
      counted = p.2;
      more = λ w C.
          let inside : is_in a.c w ≡ true = sym (C.has a.c) ∙ is in
          one_content w _ _ _ C _ (omega arith) _ (with_held _ _ is) _ (rw inside) _ (rw inside);
    }

pub overflow_add-counted : goal.overflow_add-counted
overflow_add-counted c = let p = c.requires in
    omega (arith, p.2, count_most 64 (member c.args.inside.set))

pub returns : goal.returns
returns c = let a = c.args in
    let p = c.requires in
    let out : member a.inside.set a.c ≡ false = sym c.has.ensures ∙ c.if-has.false in
    record {
      long = simp length-set p.0;
      counted = counted_more _ _ _ _ p.1 out c.with-set.ensures p.2;
      more = λ w C.
          let outside : is_in a.c w ≡ false = sym (C.has a.c) ∙ out in
          one_content w _ _ _ C _ (omega arith) _ c.with-set.ensures _ (rw outside) _ (rw outside);
    }
