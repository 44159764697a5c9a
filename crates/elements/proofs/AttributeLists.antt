-- Attributes one after the other: what each adds to the patterns.
use Prim.Native.Nat.{ℕ, suc, ◌<◌}
use mathlib.Core.Path.{◌≡◌, refl, sym, ap, subst, ◌∙◌}
use mathlib.Core.List.{List, [], ◌∷◌}
use mathlib.Core.Bool.{Bool, true, false, not, ◌&&◌, and-true, and-false, true≢false}
use mathlib.Core.Option.{Option, some, none}
use mathlib.Core.Logic.{inl, inr, ⊎_elim}
use native.Mathlib.Omega.{arith}
use lib.Dec.{eqb}
use borrow.Author.Tests.{eq-eqb, eqb-true, ne_eqb}
use Rattle.sets.specs.Sets.{member}
use Rattle.commands.specs.declared.Position.{Position}
use Rattle.commands.specs.Reading.{whole}
use Rattle.vocabularies.specs.Vocabulary.{Formula}
use Rattle.vocabularies.specs.Facts.{Fact, facts_of}
use Rattle.vocabularies.specs.declared.Facts.{Facts}
use Rattle.vocabularies.specs.Inner.Promises.{Represents}
use Rattle.pages.specs.declared.Kind.TheVariants.{Template}
use Rattle.pages.specs.declared.AttributeHere.{AttributeHere}
use Rattle.pages.specs.declared.AttributeHere.TheVariants.{Fixed, Open, Done}
use Rattle.pages.specs.Items.{Attribute, string, open_gap}
use Rattle.pages.specs.ItemReading.{attributes}
use Rattle.pages.specs.Inner.Steps.{attribute_here, AttributeMoves}
use Rattle.pages.proofs.Steps.{AttributeFirst, fixed, opened, fixed_first, open_first, none_first, fixed_moves, open_moves}
use Rattle.summaries.specs.Summaries.{Summary}
use Rattle.summaries.specs.Languages.{takes}
use Rattle.patterns.specs.Inner.Morphisms.{Morphism, fact_morphism}
use Rattle.patterns.specs.Inner.Rounds.{Set, product, only, any_below, string_reaches, value_takes}
use Rattle.patterns.specs.Inner.Elements.{taken_patterns, value_patterns, attribute_patterns}
use Rattle.patterns.proofs.Tests.{any_below_lem, below_any}
use Rattle.sets.proofs.Booleans.{or_cases, or_neither, and_left, and_right, alike, refuted}
use Rattle.patterns.proofs.Bits.{pattern_of_nothing}
use Rattle.patterns.proofs.Attributes.{Attained, attained_taken, taken_attained}
use Rattle.patterns.proofs.Clauses.{pattern_below}
use Rattle.patterns.proofs.Products.{clause_monoid, product_assoc, product_unit_left, product_unit_right}
use Rattle.pattern_sets.specs.Inner.PatternSets.{holds}
use Rattle.schemes.specs.declared.Scheme.{Scheme}
use Rattle.schemes.specs.Inner.Schemes.{StandsForFacts, Is, of_facts}
use Rattle.schemes.specs.Inner.Promises.{Multiplies}
use Rattle.clauses.specs.Inner.Promises.{alone, IsPattern, AttributesOf, ValuePatterns}
use Rattle.strings.specs.declared.AttributeValues.{AttributeValues}
use Rattle.strings.specs.Strings.{strings}
use Rattle.strings.specs.Inner.Promises.{can_take, NothingToTake}
use Rattle.graphs.specs.Inner.Graphs.{Keeps}
use Rattle.graphs.specs.Inner.Graphs as Graphs
use Rattle.graphs.proofs.ClosedGraphs.{values_kept}
use Rattle.languages.specs.Inner.Tables.{of_clause}
use Rattle.languages.specs.Inner.Promises.{AttributesTake}
use Rattle.languages.proofs.Uses.{is_as, product_as, unit_set}
use Rattle.languages.proofs.AttributeGaps.{some_taken}
use Rattle.languages.proofs.Lists.{TakingTo, taking_begins, taking_fixed, taking_open, taking_done}
use Rattle.elements.specs.declared.Attributes.{Attributes}
use Rattle.elements.specs.Inner.Attributes.{patterns_by, AttributePatterns}

-- ---- the value of one attribute

-- Of every formula whose facts are kept and read, and every summary that the words keep.
abbrev pub OfScheme : Facts → Scheme → List ℕ → (Formula → Summary → Type 0) → Type 0
OfScheme t r words P = (ψ : Formula) (G : Summary) → Represents t (facts_of ψ) → StandsForFacts r (facts_of ψ) → Keeps words G → P ψ G

module _ (t : Facts) (r : Scheme) (words : List ℕ) (n : ℕ) where
  -- The patterns of one attribute.
  abbrev pub HasPatterns : Attribute → List ℕ → Type 0
  HasPatterns a set = OfScheme t r words (λ ψ G. Is (patterns_by ψ) set (value_patterns G (facts_of ψ) n a.name a.value))

  pub string_patterns_lem : (a s p : ℕ) (set : List ℕ) → IsPattern t a s p → ((y : ℕ) → holds set y ≡ eqb y p)
      → HasPatterns (record { name = a; value = string s }) set
  string_patterns_lem a s p set is one ψ G T R kept =
      let fs = facts_of ψ in
      let same = is fs T R.few in
      let below : p < (fact_morphism fs).size = subst (λ (q : ℕ). q < (fact_morphism fs).size) (sym same) (pattern_below fs (alone a s) []) in
      let own : Is (patterns_by ψ) set (only p) = record { inside = λ x l. one x; outside = λ x l. one x ∙ ne_eqb x p (λ e. omega arith) } in
      subst (λ (q : ℕ). Is (patterns_by ψ) set (only q)) same own

  pub gap_patterns : (a h : ℕ) → n < 32 → h < 8 → (values : AttributeValues)
      → (n < 32 → h < 8 → (o : Option ℕ) → can_take values o ≡ takes (Graphs.holds words) n h o)
      → (set : List ℕ) → ValuePatterns t a values set → HasPatterns (record { name = a; value = open_gap h }) set
  gap_patterns a h low small values held set patterned ψ G T R kept =
      patterned (facts_of ψ) T R.few (takes G n h) (values_kept words n h values low small (held low small) G kept)

  -- A set with the patterns of one attribute more.
  abbrev pub Extends : Attribute → List ℕ → List ℕ → Type 0
  Extends a set set' = OfScheme t r words (λ ψ G. (A : Set) → Is (patterns_by ψ) set A
      → Is (patterns_by ψ) set' (product (patterns_by ψ) A (value_patterns G (facts_of ψ) n a.name a.value)))

  pub extends_own : (a : Attribute) (own set set' : List ℕ) → HasPatterns a own → Multiplies r set own set' → Extends a set set'
  extends_own a own set set' has joined ψ G T R kept A held =
      joined (patterns_by ψ) (of_facts R) A (value_patterns G (facts_of ψ) n a.name a.value) held (has ψ G T R kept)

  -- An attribute whose only pattern is that of none.
  unit_extends : (a : Attribute) (set : List ℕ)
      → OfScheme t r words (λ ψ G. (x : ℕ) → value_patterns G (facts_of ψ) n a.name a.value x ≡ only 0 x) → Extends a set set
  unit_extends a set is ψ G T R kept A held =
      let M = patterns_by ψ in
      is_as set A (product M A (value_patterns G (facts_of ψ) n a.name a.value)) held
      (λ x l. sym (product_as M A A (value_patterns G (facts_of ψ) n a.name a.value) (only (M.of [])) (λ y k. refl)
      (λ y k. is ψ G T R kept y ∙ sym (ap (λ (p : ℕ). only p y) (pattern_of_nothing (facts_of ψ)))) x ∙ product_unit_right M (clause_monoid ψ) A x l))

  -- An attribute that no fact is about.
  module _ (about a : ℕ) (all : AttributesOf t about) (low : a < 64) (out : member about a ≡ false) where
    pub extends_string : (s : ℕ) (set : List ℕ) → Extends (fixed a s) set set
    extends_string s set = unit_extends (fixed a s) set (λ ψ G T R kept x. ap (λ (p : ℕ). only p x) (all (facts_of ψ) T R.few a s low out))

    pub extends_gap : (h : ℕ) → ((G : Summary) → Keeps words G → value_takes G n (open_gap h) ≡ true) → (set : List ℕ) → Extends (opened a h) set set
    extends_gap h something set = unit_extends (opened a h) set only_none
      where
        only_none : OfScheme t r words (λ ψ G. (x : ℕ) → value_patterns G (facts_of ψ) n a (open_gap h) x ≡ only 0 x)
        only_none ψ G T R kept x = alike (taken_patterns fs a (takes G n h) x) (only 0 x) (λ e. no_flag (taken_attained fs a (takes G n h) x e)) (λ e. attained_taken fs a (takes G n h) x (some_value e))
          where
            fs : List Fact
            fs = facts_of ψ

            no_flag : Attained fs a (takes G n h) x → only 0 x ≡ true
            no_flag (inl (p, e)) = eq-eqb x 0 (e ∙ pattern_of_nothing fs)
            no_flag (inr (s, l, p, e)) = eq-eqb x 0 (e ∙ all fs T R.few a s low out)

            some_value : only 0 x ≡ true → Attained fs a (takes G n h) x
            some_value e = ⊎_elim
                (λ (p : takes G n h none ≡ true). inl (p, eqb-true x 0 e ∙ sym (pattern_of_nothing fs)))
                (λ (q : string_reaches G n (open_gap h) ≡ true).
                let (s, l, p) = below_any (suc strings) (λ s. takes G n h (some s)) q in
                inr (s, omega arith, p, eqb-true x 0 e ∙ sym (all fs T R.few a s low out)))
                (or_cases (takes G n h none) (string_reaches G n (open_gap h)) (something G kept))

  -- A gap with nothing to take leaves no pattern.
  pub extends_none : (a h : ℕ) → ((G : Summary) → Keeps words G → value_takes G n (open_gap h) ≡ false) → (set empty : List ℕ) → ((y : ℕ) → holds empty y ≡ false)
      → Extends (opened a h) set empty
  extends_none a h untaken set empty no_pattern ψ G T R kept A held = record {
    inside = λ z l. no_pattern z ∙ sym (refuted (product M A own z) (nothing z));
    outside = λ z l. no_pattern z;
  }
    where
      M : Morphism
      M = patterns_by ψ

      own : Set
      own = value_patterns G (facts_of ψ) n a (open_gap h)

      neither_taken : (takes G n h none ≡ false) × (string_reaches G n (open_gap h) ≡ false)
      neither_taken = or_neither (takes G n h none) (string_reaches G n (open_gap h)) (untaken G kept)

      none_had : (y : ℕ) → Attained (facts_of ψ) a (takes G n h) y → ⊥
      none_had y (inl (p, e)) = true≢false (sym p ∙ neither_taken.0)
      none_had y (inr (s, l, p, e)) = true≢false (sym (any_below_lem (suc strings) (λ s. takes G n h (some s)) s (omega arith) p) ∙ neither_taken.1)

      nothing : (z : ℕ) → product M A own z ≡ true → ⊥
      nothing z e =
          let (x, l, p) = below_any M.size (λ x. A x && any_below M.size (λ y. own y && only (M.op x y) z)) e in
          let (y, k, q) = below_any M.size (λ y. own y && only (M.op x y) z) (and_right (A x) (any_below M.size (λ y. own y && only (M.op x y) z)) p) in
          none_had y (taken_attained (facts_of ψ) a (takes G n h) y (and_left (own y) (only (M.op x y) z) q))

-- ---- attributes one after the other

module _ (s : List ℕ) (t : Facts) (r : Scheme) (words : List ℕ) (n : ℕ) where
  -- What the attributes from an offset on add to the patterns of those before.
  abbrev pub Adds : ℕ → List ℕ → List ℕ → List ℕ → Type 0
  Adds at set before end_set = OfScheme t r words (λ ψ G. (f end : ℕ) (δ : List Attribute) → attributes f Template s before at ≡ whole δ end
      → attribute_here s end ≡ Done → (A : Set) → Is (patterns_by ψ) set A
      → Is (patterns_by ψ) end_set (product (patterns_by ψ) A (attribute_patterns G (facts_of ψ) n δ)))

  -- What is added to nothing is all there is.
  pub adds_all : (at : ℕ) (set : List ℕ) (out : Attributes) → ((y : ℕ) → holds set y ≡ eqb y 0) → Adds at set [] out.set
      → AttributesTake s at words n (record { takes = out.takes; next = out.next })
      → AttributePatterns s at t r words n out
  adds_all at set out one A F ψ G T R kept f end δ e done =
      let M = patterns_by ψ in
      let unit : Is M set (only (M.of [])) = unit_set (of_facts R) (of_clause ψ) set one in
      record {
        patterned = is_as out.set (product M (only (M.of [])) (attribute_patterns G (facts_of ψ) n δ)) (attribute_patterns G (facts_of ψ) n δ)
            (A ψ G T R kept f end δ e done (only (M.of [])) unit) (λ x h. product_unit_left M (clause_monoid ψ) (attribute_patterns G (facts_of ψ) n δ) x h);
        takes = (F G kept [] f end δ e done).0;
        ends = (F G kept [] f end δ e done).1;
      }

  module _ (at : ℕ) (set before : List ℕ) (h : AttributeHere) (is : h ≡ attribute_here s at) where
    pub adds_none : h ≡ Done → Adds at set before set
    unfolding attribute_patterns
    adds_none q ψ G T R kept f end δ e done A held =
        let M = patterns_by ψ in
        let N = none_first f Template s before at δ end e done h is q in
        rw N.no_more (is_as set A (product M A (only (M.of []))) held (λ x l. sym (product_unit_right M (clause_monoid ψ) A x l)))

    -- One attribute, and then the others.
    module _ (set' end_set : List ℕ) (next : Position) where
      adds_first : (a : Attribute) → Extends t r words n a set set' → Adds next.at set' (a.name ∷ before) end_set
          → OfScheme t r words (λ ψ G. (end : ℕ) (δ : List Attribute) → AttributeFirst Template s before a next δ end → attribute_here s end ≡ Done
          → (A : Set) → Is (patterns_by ψ) set A → Is (patterns_by ψ) end_set (product (patterns_by ψ) A (attribute_patterns G (facts_of ψ) n δ)))
      unfolding attribute_patterns
      adds_first a more later ψ G T R kept end δ F done A held =
          let M = patterns_by ψ in
          let own : Set = value_patterns G (facts_of ψ) n a.name a.value in
          let rest : Set = attribute_patterns G (facts_of ψ) n F.rest in
          rw F.is_more (is_as end_set (product M (product M A own) rest) (product M A (product M own rest))
          (later ψ G T R kept F.fuel end F.rest F.reads_rest done (product M A own) (more ψ G T R kept A held))
          (λ x l. product_assoc M (clause_monoid ψ) A own rest x))

      pub adds_fixed : (a v : ℕ) → h ≡ Fixed a v next → Extends t r words n (fixed a v) set set'
          → Adds next.at set' (a ∷ before) end_set → Adds at set before end_set
      adds_fixed a v q more later ψ G T R kept f end δ e done =
          adds_first (fixed a v) more later ψ G T R kept end δ (fixed_first f Template s before at δ end e done h is a v next q).0 done

      pub adds_open : (a g : ℕ) → h ≡ Open a g next → Extends t r words n (opened a g) set set'
          → Adds next.at set' (a ∷ before) end_set → Adds at set before end_set
      adds_open a g q more later ψ G T R kept f end δ e done =
          adds_first (opened a g) more later ψ G T R kept end δ (open_first f Template s before at δ end e done h is a g next q).0 done

  -- Where the walk has come: whether the attributes passed have something to take, and that what the attributes from here on add to these
  -- patterns is what all of them add to nothing.
  pub record Going (first : ℕ) (set₀ : List ℕ) (at : ℕ) (set : List ℕ) (takes : Bool) : Type 0 where
    pub taking_to : TakingTo s words n first takes at
    pub before : List ℕ
    pub goes : (end_set : List ℕ) → Adds at set before end_set → Adds first set₀ [] end_set

  pub going_none : (at : ℕ) (set : List ℕ) → Going at set at set true
  going_none at set = record {
    taking_to = taking_begins s words n at;
    before = [];
    goes = λ end_set A. A;
  }

  module _ (first : ℕ) (set₀ : List ℕ) (at : ℕ) (set : List ℕ) (taking : Bool) (going : Going first set₀ at set taking) (h : AttributeHere)
      (is : (h ≡ attribute_here s at) × AttributeMoves s at h) where
    module _ (a v : ℕ) (next : Position) (q : h ≡ Fixed a v next) where
      going_fixed : (set' : List ℕ) → Extends t r words n (fixed a v) set set' → Going first set₀ next.at set' taking
      going_fixed set' longer = record {
        taking_to = taking_fixed s words n first taking at going.taking_to h is.0 a v next q (fixed_moves s at h is.1 a v next q).0.forward;
        before = a ∷ going.before;
        goes = λ end_set A. going.goes end_set (adds_fixed at set going.before h is.0 set' end_set next a v q longer A);
      }

      pub going_string : (p : ℕ) (own set' : List ℕ) → IsPattern t a v p → ((y : ℕ) → holds own y ≡ eqb y p) → Multiplies r set own set'
          → Going first set₀ next.at set' taking
      going_string p own set' patterned one joined =
          going_fixed set' (extends_own t r words n (fixed a v) own set set' (string_patterns_lem t r words n a v p own patterned one) joined)

      -- No fact is about the attribute.
      pub going_other_string : (about : ℕ) → AttributesOf t about → member about a ≡ false → Going first set₀ next.at set taking
      going_other_string about all out =
          let m = fixed_moves s at h is.1 a v next q in
          going_fixed set (extends_string t r words n about a all (omega (arith, m.1)) out v set)

    module _ (a g : ℕ) (next : Position) (q : h ≡ Open a g next) (low : n < 32)
        (values : AttributeValues) (held : n < 32 → g < 8 → (o : Option ℕ) → can_take values o ≡ takes (Graphs.holds words) n g o) (b : Bool) (empty_told : NothingToTake values b) where
      small : g < 8
      small = (open_moves s at h is.1 a g next q).2

      takes_some : (G : Summary) → Keeps words G → g < 8 → not b ≡ value_takes G n (open_gap g)
      takes_some G keeps small' = some_taken words n g low G keeps small' values (held low small') b empty_told

      going_open : (taking' : Bool) → taking' ≡ (taking && not b) → (set' : List ℕ) → Extends t r words n (opened a g) set set' → Going first set₀ next.at set' taking'
      going_open taking' is_taking set' longer = record {
        taking_to = taking_open s words n first taking at going.taking_to h is.0 a g next q (open_moves s at h is.1 a g next q).0.forward (not b) takes_some taking' is_taking;
        before = a ∷ going.before;
        goes = λ end_set A. going.goes end_set (adds_open at set going.before h is.0 set' end_set next a g q longer A);
      }

      pub going_empty : b ≡ true → (empty : List ℕ) → ((y : ℕ) → holds empty y ≡ false) → Going first set₀ next.at empty false
      going_empty e empty no_pattern = going_open false (sym (ap (λ (u : Bool). taking && not u) e ∙ and-false taking)) empty
          (extends_none t r words n a g (λ G keeps. sym (takes_some G keeps small) ∙ ap not e) set empty no_pattern)

      module _ (e : b ≡ false) where
        still : taking ≡ (taking && not b)
        still = sym (ap (λ (u : Bool). taking && not u) e ∙ and-true taking)

        pub going_values : (own set' : List ℕ) → ValuePatterns t a values own → Multiplies r set own set' → Going first set₀ next.at set' taking
        going_values own set' patterned joined =
            going_open taking still set' (extends_own t r words n (opened a g) own set set' (gap_patterns t r words n a g low small values held own patterned) joined)

        -- No fact is about the attribute.
        pub going_other_values : (about : ℕ) → AttributesOf t about → member about a ≡ false → Going first set₀ next.at set taking
        going_other_values about all out =
            let m = open_moves s at h is.1 a g next q in
            going_open taking still set (extends_gap t r words n about a all (omega (arith, m.1)) out g (λ G keeps. sym (takes_some G keeps small) ∙ ap not e) set)

    pub going_ends : h ≡ Done → ((y : ℕ) → holds set₀ y ≡ eqb y 0)
        → AttributePatterns s first t r words n (record { set = set; takes = taking; next = record { at = at } })
    going_ends q one = adds_all first set₀ (record { set = set; takes = taking; next = record { at = at } }) one
        (going.goes set (adds_none at set going.before h is.0 q))
        (taking_done s words n first taking at going.taking_to h is.0 (record { takes = taking; next = record { at = at } }) q refl)
