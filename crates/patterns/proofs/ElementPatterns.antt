-- The patterns of an element are exact: each is that of some choice of strings and absence for its attributes and of some contents, and a
-- clause can fail exactly if it fails for one of them. All strings outside the named ones give an attribute the same pattern.
use Prim.Native.Nat.{ℕ, ◌≤◌, ◌^◌}
use native.Mathlib.Omega.{arith}
use mathlib.Core.Path.{◌≡◌, refl, sym, ap, ap₂, subst, ◌∙◌}
use mathlib.Core.List.{List, [], ◌∷◌}
use mathlib.Core.Bool.{Bool, true, false, not, ◌&&◌, true≢false, false≢true}
use mathlib.Core.Option.{some}
use mathlib.Core.Logic.{◌↔◌, inl, inr, ⊎_elim}
use lib.ListN.{length}
use lib.Dec.{eqb}
use borrow.Author.Tests.{eqb-true, not-true}
use Rattle.sets.specs.Sets.{member}
use Rattle.commands.specs.Commands.{strings}
use Rattle.vocabularies.specs.Vocabulary.{Formula, conj, disj, neg, truth, attr, content, order, value, is_in, Distinct}
use Rattle.vocabularies.specs.Facts.{Fact, carried, present, ordered, valued, is_among, add, with_facts, facts_of}
use Rattle.pages.specs.Items.{Value, string, open_gap, Attribute, Items}
use Rattle.pages.specs.RightPages.{names, word}
use Rattle.judging.specs.Inner.Judgement.{truth_of, atoms_of}
use Rattle.summaries.specs.Summaries.{Summary}
use Rattle.summaries.specs.Languages.{takes, AttributesDerive, no_attribute, fixed, filled, dropped}
use Rattle.patterns.specs.Inner.Patterns.{breaks_value, flagged, pattern_of, join, atoms_by}
use Rattle.patterns.specs.Inner.Morphisms.{fact_morphism}
use Rattle.patterns.specs.Inner.Given.{Bounded, NamedOnly}
use Rattle.patterns.specs.Inner.Rounds.{Sets, only, any_below, patterns}
use Rattle.patterns.specs.Inner.Reached.{CanBe}
use Rattle.patterns.specs.Inner.Elements.{attribute_pattern, absence_pattern, absence_patterns, string_patterns, value_patterns, attribute_patterns, element_patterns, clause_fails}
use Rattle.patterns.specs.Inner.Exactness.{Exact}
use Rattle.patterns.proofs.Tests.{eqb_same, any_below_lem, below_any}
use Rattle.sets.proofs.Booleans.{or_right, and_both, and_left, and_right}
use Rattle.patterns.proofs.Facts.{Closed, facts_closed, among_add_cases}
use Rattle.patterns.proofs.Clauses.{numbered_same, pattern_append, pattern_element, pattern_below, truth_of_pattern}
use Rattle.patterns.proofs.Lawful.{clause_lawful}
use Rattle.patterns.proofs.Attributes.{any_named_lem, derived_once, Attained, attained_taken, taken_attained}
use Rattle.patterns.proofs.Exact.{in_product, factors, contents_exact}

-- Every set among the facts holds named strings alone.
abbrev pub NamedSets : List Fact → Type 0
NamedSets fs = (a m : ℕ) → is_among (valued a m) fs ≡ true → (s : ℕ) → strings ≤ s → member m s ≡ false

is_set : Fact → Bool
is_set (carried a) = false
is_set (present c) = false
is_set (ordered c d) = false
is_set (valued a m) = true

named_add : (f : Fact) (fs : List Fact) → is_set f ≡ false → NamedSets fs → NamedSets (add f fs)
unfolding is_set
named_add f fs no_set h a m e = ⊎_elim (h a m) (λ q. absurd (true≢false (ap is_set q ∙ no_set))) (among_add_cases (valued a m) f fs e)

named_with : (ψ : Formula) (fs : List Fact) → NamedOnly ψ → NamedSets fs → NamedSets (with_facts ψ fs)
unfolding with_facts is_set
named_with (conj ψ₁ ψ₂) fs k h = named_with ψ₂ (with_facts ψ₁ fs) k.1 (named_with ψ₁ fs k.0 h)
named_with (disj ψ₁ ψ₂) fs k h = named_with ψ₂ (with_facts ψ₁ fs) k.1 (named_with ψ₁ fs k.0 h)
named_with (neg ψ) fs k h = named_with ψ fs k h
named_with truth fs k h = h
named_with (attr a) fs k h = named_add (carried a) fs refl h
named_with (content c) fs k h = named_add (present c) fs refl h
named_with (order c d) fs k h = named_add (ordered c d) (add (present d) (add (present c) fs)) refl
    (named_add (present d) (add (present c) fs) refl (named_add (present c) fs refl h))
named_with (value a m) fs k h = λ b l e. ⊎_elim
    (h b l)
    (λ q. let same : m ≡ l = cc in subst (λ (j : ℕ). (s : ℕ) → strings ≤ s → member j s ≡ false) same k)
    (among_add_cases (valued b l) (valued a m) fs e)

pub facts_named : (ψ : Formula) → NamedOnly ψ → NamedSets (facts_of ψ)
unfolding is_among
facts_named ψ k = named_with ψ [] k (λ a m e. absurd (false≢true e))

-- All strings outside the named ones share one pattern.
pub others_share : (fs : List Fact) → NamedSets fs → (a s : ℕ) → strings ≤ s → attribute_pattern fs a s ≡ attribute_pattern fs a strings
unfolding pattern_of is_in breaks_value
others_share fs named a s h = numbered_same fs (flagged (one s) []) (flagged (one strings) []) each
  where
    one : ℕ → List Attribute
    one t = record { name = a; value = string t } ∷ []

    each : (f : Fact) → is_among f fs ≡ true → flagged (one s) [] f ≡ flagged (one strings) [] f
    each (carried b) e = refl
    each (present c) e = refl
    each (ordered c d) e = refl
    each (valued b m) e = rw (named b m e s h, named b m e strings (omega arith))

module _ (φs : List Items) (G : Summary) (bounded : Bounded φs G) (fs : List Fact) (closed : Closed fs) (named : NamedSets fs) where
  attribute_then : (a : Attribute) (δ : List Attribute) → pattern_of fs (a ∷ δ) [] ≡ join fs (pattern_of fs (a ∷ []) []) (pattern_of fs δ [])
  attribute_then a δ = pattern_append fs closed (a ∷ []) δ [] []

  none_then : (δ : List Attribute) → pattern_of fs δ [] ≡ join fs (absence_pattern fs) (pattern_of fs δ [])
  none_then δ = pattern_append fs closed [] δ [] []

  string_found : (n a h s : ℕ) → takes G n h (some s) ≡ true → value_patterns G fs n a (open_gap h) (attribute_pattern fs a s) ≡ true
  string_found n a h s e = or_right (absence_patterns fs (takes G n h) (attribute_pattern fs a s)) (string_patterns fs a (takes G n h) (attribute_pattern fs a s))
      (any_named_lem (λ t. takes G n h (some t) && only (attribute_pattern fs a t) (attribute_pattern fs a s))
      (λ t k. ap₂ (λ (p : Bool) (x : ℕ). p && eqb (attribute_pattern fs a s) x) (bounded.others_alike n h t k) (others_share fs named a t k))
      s (and_both _ _ e (eqb_same (attribute_pattern fs a s))))

  attributes_found : {n : ℕ} {δ δ' : List Attribute} → AttributesDerive φs G n δ δ' → attribute_patterns G fs n δ (pattern_of fs δ' []) ≡ true
  unfolding attribute_patterns
  attributes_found no_attribute = eqb_same (absence_pattern fs)
  attributes_found {n} (fixed {a = a} {s = s} {δ = δ} {δ' = δ'} d) =
      in_product (fact_morphism fs) (value_patterns G fs n a (string s)) (attribute_patterns G fs n δ) (attribute_pattern fs a s) (pattern_of fs δ' [])
      (pattern_of fs (record { name = a; value = string s } ∷ δ') [])
      (pattern_below fs (record { name = a; value = string s } ∷ []) []) (pattern_below fs δ' [])
      (eqb_same (attribute_pattern fs a s)) (attributes_found d) (attribute_then (record { name = a; value = string s }) δ')
  attributes_found {n} (filled {a = a} {h = h} {δ = δ} {δ' = δ'} s e d) =
      in_product (fact_morphism fs) (value_patterns G fs n a (open_gap h)) (attribute_patterns G fs n δ) (attribute_pattern fs a s) (pattern_of fs δ' [])
      (pattern_of fs (record { name = a; value = string s } ∷ δ') [])
      (pattern_below fs (record { name = a; value = string s } ∷ []) []) (pattern_below fs δ' [])
      (string_found n a h s e) (attributes_found d) (attribute_then (record { name = a; value = string s }) δ')
  attributes_found {n} (dropped {a = a} {h = h} {δ = δ} {δ' = δ'} e d) =
      in_product (fact_morphism fs) (value_patterns G fs n a (open_gap h)) (attribute_patterns G fs n δ) (absence_pattern fs) (pattern_of fs δ' [])
      (pattern_of fs δ' []) (pattern_below fs [] []) (pattern_below fs δ' [])
      (attained_taken fs a (takes G n h) (absence_pattern fs) (inl (e, refl))) (attributes_found d) (none_then δ')

  AttributesMade : ℕ → List Attribute → ℕ → Type 0
  AttributesMade n δ x = (δ' : List Attribute) × AttributesDerive φs G n δ δ' × (pattern_of fs δ' [] ≡ x)

  value_made : (n a : ℕ) (v : Value) (δ : List Attribute) (x y : ℕ) → value_patterns G fs n a v x ≡ true → AttributesMade n δ y
      → AttributesMade n (record { name = a; value = v } ∷ δ) (join fs x y)
  unfolding AttributesMade
  value_made n a (string s) δ x y e (δ', d, p) = (
    record { name = a; value = string s } ∷ δ',
    fixed d,
    attribute_then (record { name = a; value = string s }) δ' ∙ ap₂ (join fs) (sym (eqb-true x (attribute_pattern fs a s) e)) p,
  )
  value_made n a (open_gap h) δ x y e (δ', d, p) = made (taken_attained fs a (takes G n h) x e)
    where
      made : Attained fs a (takes G n h) x → AttributesMade n (record { name = a; value = open_gap h } ∷ δ) (join fs x y)
      made (inl (t, q)) = (δ', dropped t d, none_then δ' ∙ ap₂ (join fs) (sym q) p)
      made (inr (s, l, t, q)) = (
        record { name = a; value = string s } ∷ δ',
        filled s t d,
        attribute_then (record { name = a; value = string s }) δ' ∙ ap₂ (join fs) (sym q) p,
      )

  attributes_made : (n : ℕ) (δ : List Attribute) (x : ℕ) → attribute_patterns G fs n δ x ≡ true → AttributesMade n δ x
  unfolding attribute_patterns AttributesMade
  attributes_made n [] x e = ([], no_attribute, sym (eqb-true x (absence_pattern fs) e))
  attributes_made n (a ∷ δ) x e =
      let f = factors (fact_morphism fs) (value_patterns G fs n a.name a.value) (attribute_patterns G fs n δ) x e in
      let (δ', d, p) = value_made n a.name a.value δ f.first f.second f.in_first_lem (attributes_made n δ f.second f.in_second) in
      (δ', d, p ∙ sym f.joined)

  -- The attribute patterns are those of the strings, or of absence, that the attributes can take, each by itself.
  pub attributes_exact : (n : ℕ) (δ : List Attribute) (x : ℕ)
      → attribute_patterns G fs n δ x ≡ true ↔ ((δ' : List Attribute) × AttributesDerive φs G n δ δ' × (pattern_of fs δ' [] ≡ x))
  unfolding AttributesMade
  attributes_exact n δ x = (attributes_made n δ x, λ (δ', d, p). subst (λ (y : ℕ). attribute_patterns G fs n δ y ≡ true) p (attributes_found d))

module _ (φs : List Items) (G : Summary) (bounded : Bounded φs G) (ψ : Formula) (named : NamedOnly ψ)
    (X : Sets) (exact : Exact φs G (fact_morphism (facts_of ψ)) X) where
  -- Some filling of an element has pattern x.
  abbrev HasPattern : ℕ → List Attribute → Items → ℕ → Type 0
  HasPattern n δ φ x = CanBe φs G n δ φ (λ δ' φ'. pattern_of (facts_of ψ) δ' (word φ') ≡ x)

  pattern_made : (n : ℕ) (δ : List Attribute) (φ : Items) (x : ℕ) → element_patterns φs G (facts_of ψ) X n δ φ x ≡ true → HasPattern n δ φ x
  pattern_made n δ φ x e =
      let f = factors (fact_morphism (facts_of ψ)) (attribute_patterns G (facts_of ψ) n δ) (patterns φs G (fact_morphism (facts_of ψ)) X n φ) x e in
      let (δ', a, p) = (attributes_exact φs G bounded (facts_of ψ) (facts_closed ψ) (facts_named ψ named) n δ f.first).0 f.in_first_lem in
      let (φ', d, q) = (contents_exact φs G bounded (fact_morphism (facts_of ψ)) (clause_lawful ψ) X exact n φ f.second).0 f.in_second in
      (δ', φ', a, d, pattern_element (facts_of ψ) (facts_closed ψ) δ' (word φ') ∙ ap₂ (join (facts_of ψ)) p q ∙ sym f.joined)

  pattern_found : (n : ℕ) (δ : List Attribute) (φ : Items) (x : ℕ) → HasPattern n δ φ x → element_patterns φs G (facts_of ψ) X n δ φ x ≡ true
  pattern_found n δ φ x (δ', φ', a, d, p) =
      in_product (fact_morphism (facts_of ψ)) (attribute_patterns G (facts_of ψ) n δ) (patterns φs G (fact_morphism (facts_of ψ)) X n φ)
      (pattern_of (facts_of ψ) δ' []) (pattern_of (facts_of ψ) [] (word φ')) x
      (pattern_below (facts_of ψ) δ' []) (pattern_below (facts_of ψ) [] (word φ'))
      ((attributes_exact φs G bounded (facts_of ψ) (facts_closed ψ) (facts_named ψ named) n δ (pattern_of (facts_of ψ) δ' [])).1 (δ', a, refl))
      ((contents_exact φs G bounded (fact_morphism (facts_of ψ)) (clause_lawful ψ) X exact n φ (pattern_of (facts_of ψ) [] (word φ'))).1 (φ', d, refl))
      (sym p ∙ pattern_element (facts_of ψ) (facts_closed ψ) δ' (word φ'))

  -- The patterns of an element are those of its attributes and contents, filled in any way.
  pub element_exact : (n : ℕ) (δ : List Attribute) (φ : Items) (x : ℕ) → element_patterns φs G (facts_of ψ) X n δ φ x ≡ true
      ↔ CanBe φs G n δ φ (λ δ' φ'. pattern_of (facts_of ψ) δ' (word φ') ≡ x)
  element_exact n δ φ x = (pattern_made n δ φ x, pattern_found n δ φ x)

  -- The truth of the clause at a filling is that at its pattern.
  truth_at : {n : ℕ} {δ δ' : List Attribute} → Distinct (names δ) → AttributesDerive φs G n δ δ' → (w : List ℕ) (x : ℕ) → pattern_of (facts_of ψ) δ' w ≡ x
      → truth_of (atoms_of δ' w) ψ ≡ truth_of (atoms_by (facts_of ψ) x) ψ
  truth_at {δ' = δ'} once a w x p = truth_of_pattern ψ δ' w (derived_once φs G a once) ∙ ap (λ (y : ℕ). truth_of (atoms_by (facts_of ψ) y) ψ) p

  -- The test of a clause is exact.
  pub clause_exact : (n : ℕ) (δ : List Attribute) (φ : Items) → Distinct (names δ) → clause_fails φs G ψ X n δ φ ≡ true
      ↔ CanBe φs G n δ φ (λ δ' φ'. truth_of (atoms_of δ' (word φ')) ψ ≡ false)
  unfolding clause_fails
  clause_exact n δ φ once = (to, back)
    where
      fails : ℕ → Bool
      fails x = not (truth_of (atoms_by (facts_of ψ) x) ψ)

      to : any_below (2 ^ length (facts_of ψ)) (λ x. element_patterns φs G (facts_of ψ) X n δ φ x && fails x) ≡ true
          → CanBe φs G n δ φ (λ δ' φ'. truth_of (atoms_of δ' (word φ')) ψ ≡ false)
      to e =
          let (x, h, p) = below_any (2 ^ length (facts_of ψ)) (λ x. element_patterns φs G (facts_of ψ) X n δ φ x && fails x) e in
          let (δ', φ', a, d, q) = pattern_made n δ φ x (and_left (element_patterns φs G (facts_of ψ) X n δ φ x) (fails x) p) in (
            δ',
            φ',
            a,
            d,
            truth_at once a (word φ') x q
                ∙ not-true (truth_of (atoms_by (facts_of ψ) x) ψ) (and_right (element_patterns φs G (facts_of ψ) X n δ φ x) (fails x) p),
          )

      back : CanBe φs G n δ φ (λ δ' φ'. truth_of (atoms_of δ' (word φ')) ψ ≡ false)
          → any_below (2 ^ length (facts_of ψ)) (λ x. element_patterns φs G (facts_of ψ) X n δ φ x && fails x) ≡ true
      back (δ', φ', a, d, q) =
          let x : ℕ = pattern_of (facts_of ψ) δ' (word φ') in
          any_below_lem (2 ^ length (facts_of ψ)) (λ x'. element_patterns φs G (facts_of ψ) X n δ φ x' && fails x') x
          (pattern_below (facts_of ψ) δ' (word φ'))
          (and_both _ _ (pattern_found n δ φ x (δ', φ', a, d, refl)) (ap not (sym (truth_at once a (word φ') x refl) ∙ q)))
