-- Clauses met and not met, elements that are wrong and what is told of them (document 02, F-6), and a page that is right (source 000, section
-- 6, with document 01's formulas), by computation where the definition computes, else by a short proof.
use Prim.Native.Nat.{ℕ, zero, suc, ◌≤◌, zero-le}
use native.Mathlib.Omega.{arith}
use mathlib.Core.Path.{◌≡◌, refl, sym, ap, ◌∙◌}
use mathlib.Core.List.Memᴰ
use mathlib.Core.List.{List, [], ◌∷◌}
use mathlib.Core.Bool.{Bool, true, false, false≢true}
use mathlib.Core.Logic.{◌⊎◌, inl, inr}
use Rattle.sets.specs.Sets.{member}
use Rattle.verdicts.specs.declared.Breach.TheVariants.{Content, Clause}
use Rattle.verdicts.specs.declared.Breach.TheVariants as Breaches
use Rattle.vocabularies.specs.Vocabulary.{Formula, disj, neg, attr, content, order, value, Rule, Vocabulary, rule_of}
use Rattle.pages.specs.Items.{Value, string, open_gap, Attribute, text, element, Items, none, more, one, without_blank, gap_in, attribute_gap_in}
use Rattle.pages.specs.RightPages.{◌∈◌, word, Meets, Accepts, Right, SomeElement, ElementWrong, attribute_not_allowed, content_not_allowed, clause_not_met, WrongAt, FirstBreach, an_attribute, a_clause}
use Rattle.programs.specs.Program.{statement_at, template_at}
use Rattle.programs.specs.Runs.{shown, closed, plugged_string}
use Rattle.worked_examples.proofs.Runs.{attribute, first, choosing}
use Rattle.worked_examples.proofs.ReadingAttributes.{strings_0_7_63, outer_rule, inner_rule, attribute_tree}

-- "Two texts side by side are two contents": with `16 00 00`, at most one text, they are not one.
pub two_texts : Meets [] (more text (one text)) (order 0 0) → ⊥
unfolding Meets
two_texts h = omega (arith, h 1 0 (omega arith) (omega arith) refl refl)

abbrev inner : List Attribute → Items → Items
inner δ φ = one (element 2 63 δ φ)

-- `16 02 00`: "no d stands before a c", no text before an element 2. The other way round it is met, and so it is where neither stands.
pub text_before : Meets [] (more text (inner [] none)) (order 2 0) → ⊥
unfolding Meets
text_before h = omega (arith, h 1 0 (omega arith) (omega arith) refl refl)

pub text_after : Meets [] (more (element 2 63 [] none) (one text)) (order 2 0)
unfolding Meets
text_after zero j hi hj ei ej = zero-le
text_after (suc zero) j hi hj ei ej = omega (arith, ei)
text_after (suc (suc i)) j hi hj ei ej = omega (arith, hi)

pub neither : Meets [] none (order 2 0)
unfolding Meets
neither i j hi hj ei ej = omega (arith, hi)

-- `17 03 m`, m being strings 0, 7 and 63; attribute 3 with a string.
abbrev among : Formula
among = value 3 strings_0_7_63

abbrev having : ℕ → List Attribute
having s = attribute 3 (string s) ∷ []

-- "Attribute a is absent or has a string of set m": absence meets it, and is not string 0.
pub absent_met : Meets [] none among
unfolding Meets
absent_met = inl Memᴰ.not-nil

-- The highest bit is that of string 63.
pub highest_met : Meets (having 63) none among
unfolding Meets member
highest_met = inr (63, Memᴰ.head refl, refl)

abbrev string_in : Value → ℕ
string_in (string s) = s
string_in (open_gap h) = 0

by_bit_alone : (s : ℕ) → member strings_0_7_63 s ≡ false → Meets (having s) none among → ⊥
unfolding Meets
by_bit_alone s out (inl absent) = absent (Memᴰ.head refl)
by_bit_alone s out (inr (t, m, e)) =
    let same : t ≡ s = ap (λ (a : Attribute). string_in a.value) (Memᴰ.eq_of_singleton m) in
    false≢true (sym out ∙ rw (← same) e)

-- String 64 is in no set: it does not wrap round to bit 0.
pub outside_not_met : Meets (having 64) none among → ⊥
unfolding member
outside_not_met = by_bit_alone 64 refl

-- "a is in m or a is not in m" is met for any string, one outside 0 to 63 too.
pub in_or_not_in : (s : ℕ) → Meets (having s) none (disj among (neg among))
unfolding Meets
in_or_not_in s = go (member strings_0_7_63 s) refl
  where
    go : (b : Bool) → member strings_0_7_63 s ≡ b → Meets (having s) none (disj among (neg among))
    go true e = inl (inr (s, Memᴰ.head refl, e))
    go false e = inr (by_bit_alone s e)

abbrev vocabulary : Vocabulary
vocabulary = attribute_tree.script.vocabulary

-- The page that the job with attributes shows, with string 63 for the one that it chooses.
abbrev outer_attributes : List Attribute
outer_attributes = attribute 0 (string 7) ∷ attribute 3 (string 63) ∷ []

abbrev inner_attributes : List Attribute
inner_attributes = attribute 0 (string 9) ∷ []

abbrev contents : Items
contents = more text (inner inner_attributes none)

abbrev page : Items
page = one (element 1 54 outer_attributes contents)

-- Six choices: the string is the fourth one's, at `34`; the gap that is left open is empty in the page.
pub shows : shown attribute_tree.script.templates attribute_tree.script.program
    (first ∷ first ∷ first ∷ choosing 63 ∷ first ∷ first ∷ []) ≡ page ∷ []
unfolding shown statement_at template_at plugged_string closed
shows = refl

outer_clauses : (ψ : Formula) → ψ ∈ outer_rule.clauses → Meets outer_attributes contents ψ
unfolding Meets member
outer_clauses ψ m = go (Memᴰ.cases_cons m)
  where
    go : (ψ ≡ attr 0) ⊎ (ψ ∈ (disj among (neg among) ∷ [])) → Meets outer_attributes contents ψ
    go (inl e) = rw e (Memᴰ.head refl)
    go (inr m') = rw (Memᴰ.eq_of_singleton m') (inl (inr (63, Memᴰ.tail (Memᴰ.head refl), refl)))

inner_clauses : (ψ : Formula) → ψ ∈ inner_rule.clauses → Meets inner_attributes none ψ
unfolding Meets member
inner_clauses ψ m = rw (Memᴰ.eq_of_singleton m) (inr (9, Memᴰ.head refl, refl))

-- "Exactly one element, the root, and every element in it has only allowed attributes and contents and meets all clauses": the element
-- inside is held to its own rule.
pub page_right : Right vocabulary page
unfolding Accepts word without_blank rule_of gap_in attribute_gap_in
page_right = record {
  alone = (54, outer_attributes, contents, refl);
  accepted = (
    (
      record { rule = outer_rule; declares = refl; attributes = λ a m. m; contents = λ c m. m; clauses = outer_clauses },
      (
        tt,
        (
          (record { rule = inner_rule; declares = refl; attributes = λ a m. m; contents = λ c m. m; clauses = inner_clauses }, tt),
          tt,
        ),
      ),
    ),
    tt,
  );
  gapless = record { gaps = λ g. refl; attribute_gaps = λ h. refl };
}

-- An element 1 without attribute 0 does not meet its first clause: what an element may have it need not have, unless a clause says so.
pub attribute_missing : ElementWrong vocabulary 1 [] none (Clause 0)
unfolding rule_of Meets
attribute_missing = clause_not_met 0 refl (omega arith) Memᴰ.not-nil

-- Attribute 3 is allowed in element 1 alone, and text is not allowed in element 2.
pub attribute_wrong : ElementWrong vocabulary 2 (having 7) none Breaches.Attribute
unfolding rule_of
attribute_wrong = attribute_not_allowed 3 refl (Memᴰ.head refl) (λ m. let e = Memᴰ.eq_of_singleton m in omega (arith, e))

pub content_wrong : ElementWrong vocabulary 2 [] (one text) Content
unfolding rule_of word
content_wrong = content_not_allowed 0 refl (Memᴰ.head refl) Memᴰ.not-nil

-- Element 1 must hold no text, must have attribute 0 and must hold an element 2.
abbrev strict_rule : Rule
strict_rule = record { element = 1; attributes = 0 ∷ []; contents = 0 ∷ 2 ∷ []; clauses = neg (content 0) ∷ attr 0 ∷ content 2 ∷ [] }

abbrev strict : Vocabulary
strict = record { rules = strict_rule ∷ []; root = 1 }

abbrev alone : List Attribute → Items
alone δ = one (element 1 0 δ none)

-- With attribute 3, which is not allowed, in place of attribute 0: the attribute is told, not the clause.
pub attribute_first : WrongAt strict 0 (alone (having 7)) (Clause 1) × FirstBreach (WrongAt strict 0 (alone (having 7))) Breaches.Attribute
unfolding WrongAt SomeElement rule_of Meets
attribute_first = (
  inl (inl (refl, clause_not_met 1 refl (omega arith) (λ m. let e = Memᴰ.eq_of_singleton m in omega (arith, e)))),
  an_attribute (inl (inl (refl, attribute_not_allowed 3 refl (Memᴰ.head refl) (λ m. let e = Memᴰ.eq_of_singleton m in omega (arith, e))))),
)

-- Without attributes and contents: of the clauses, at 0 to 2, the last two fail, and the lower one is told.
pub lowest_clause : WrongAt strict 0 (alone []) (Clause 2) × FirstBreach (WrongAt strict 0 (alone [])) (Clause 1)
unfolding WrongAt SomeElement rule_of Meets word
lowest_clause = (
  inl (inl (refl, clause_not_met 2 refl (omega arith) (λ (i, h, e). omega (arith, h)))),
  a_clause (inl (inl (refl, clause_not_met 1 refl (omega arith) Memᴰ.not-nil))) no_attribute no_content_lem from_1,
)
  where
    no_attribute : WrongAt strict 0 (alone []) Breaches.Attribute → ⊥
    no_attribute (inl (inl (e, attribute_not_allowed a p m n))) = Memᴰ.not-nil m
    no_attribute (inl (inr w)) = w
    no_attribute (inr w) = w

    no_content_lem : WrongAt strict 0 (alone []) Content → ⊥
    no_content_lem (inl (inl (e, content_not_allowed c p m n))) = Memᴰ.not-nil m
    no_content_lem (inl (inr w)) = w
    no_content_lem (inr w) = w

    from_1 : (j : ℕ) → WrongAt strict 0 (alone []) (Clause j) → 1 ≤ j
    from_1 (suc j) w = omega arith
    from_1 zero (inl (inl (e, clause_not_met {rule = r} i p h n))) =
        let is : r ≡ strict_rule = cc in
        let fails : Meets [] none (neg (content 0)) → ⊥ = rw is at n in
        absurd (fails (λ (i, h, e). omega (arith, h)))
    from_1 zero (inl (inr w)) = absurd w
    from_1 zero (inr w) = absurd w
