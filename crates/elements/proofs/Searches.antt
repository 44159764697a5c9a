-- The items of a template from the left: the patterns and the lowest wrong element of what was passed, then of the item, then of the
-- others.
use Prim.Native.Nat.{ℕ, ◌+◌}
use mathlib.Core.Path.{◌≡◌, refl, sym, ap, ap₂, subst, ◌∙◌}
use mathlib.Core.List.{List, []}
use mathlib.Core.Bool.{Bool, true, false, not, ◌&&◌, and-false, false≢true}
use mathlib.Core.Logic.{inl, inr}
use borrow.Author.Tests.{ne_eqb, eq-eqb}
use Rattle.std.specs.Prelude.{None}
use Rattle.std.specs.Bool.{then_some}
use Rattle.verdicts.specs.declared.Breach.TheVariants as Breaches
use Rattle.commands.specs.declared.Position.{Position}
use Rattle.commands.specs.Reading.{whole}
use Rattle.vocabularies.specs.Vocabulary.{Formula}
use Rattle.vocabularies.specs.Facts.{facts_of}
use Rattle.pages.specs.declared.Kind.TheVariants.{Template}
use Rattle.pages.specs.declared.ItemHere.{ItemHere}
use Rattle.pages.specs.declared.ItemHere.TheVariants.{Text, Gap, Element, Blank, End}
use Rattle.pages.specs.Items.{Attribute, Item, Items}
use Rattle.pages.specs.Items as Items
use Rattle.pages.specs.ItemReading.{item, items}
use Rattle.pages.specs.Inner.Steps.{item_here}
use Rattle.pages.proofs.Steps.{LeafFirst, text_first, blank_first, gap_first, element_first, end_first, element_item, no_attribute}
use Rattle.judging.specs.Inner.Judgement.{broken_if}
use Rattle.summaries.specs.Summaries.{Summary}
use Rattle.patterns.specs.Inner.Morphisms.{Morphism}
use Rattle.patterns.specs.Inner.Given.{Bounded}
use Rattle.patterns.specs.Inner.Rounds.{Sets, any_below, attributes_take, all_take, item_takes, patterns}
use Rattle.patterns.specs.Inner.Elements.{attribute_patterns, element_patterns, clause_fails}
use Rattle.patterns.specs.Inner.LowestWrong.{MaybeWrong, lower_wrong, wrong_at, Test, lowest_in, lowest_of}
use Rattle.patterns.proofs.Tests.{any_below_lem, below_any}
use Rattle.sets.proofs.Booleans.{and_both, refuted}
use Rattle.patterns.proofs.LowestOf.{lower_nowhere, lower_assoc}
use Rattle.patterns.proofs.Products.{clause_monoid, some_pattern}
use Rattle.patterns.proofs.Lawful.{clause_lawful}
use Rattle.pattern_sets.specs.Inner.PatternSets.{IsEmpty}
use Rattle.schemes.specs.Inner.Schemes.{Is, of_facts}
use Rattle.schemes.specs.Inner.Promises.{Multiplies}
use Rattle.clauses.specs.declared.Tested.{Tested}
use Rattle.clauses.specs.Inner.Promises.{ClauseFails}
use Rattle.languages.specs.declared.Filled.{Filled}
use Rattle.languages.specs.declared.Line.{Line}
use Rattle.languages.specs.Inner.Tables.{of_clause}
use Rattle.languages.specs.Inner.Promises.{AttributesTake}
use Rattle.languages.proofs.Uses.{held_below}
use Rattle.languages.proofs.Lists.{LentSets, ListHas, ListTo}
use Rattle.elements.specs.declared.Attributes.{Attributes}
use Rattle.elements.specs.declared.Clause.{Clause}
use Rattle.elements.specs.declared.FoundElement.{FoundElement}
use Rattle.elements.specs.declared.FoundItems.{FoundItems}
use Rattle.elements.specs.Inner.Attributes.{patterns_by, AttributePatterns}
use Rattle.elements.specs.Inner.Search.{told_if, fails_at, CanFail, HasPattern, Searching, OfSearch, SearchesItems, SearchesElement}

-- ---- an element

-- The patterns of its attributes with those of its contents after them, and the clause at each of these.
pub clause_tested : (s : List ℕ) (c : Clause) (outer inner joined : List ℕ) (tested : Tested) → Multiplies c.scheme outer inner joined
    → ClauseFails c.facts joined s c.formula.at tested → CanFail s c outer inner tested.fails
unfolding clause_fails
clause_tested s c outer inner joined tested product fails φs G ψ X C n δ φ is_outer is_inner =
    let R = C.reads in
    let held = product (patterns_by ψ) (of_facts R) (attribute_patterns G (facts_of ψ) n δ) (patterns φs G (patterns_by ψ) X n φ) is_outer is_inner in
    (fails (facts_of ψ) C.represents R.few (element_patterns φs G (facts_of ψ) X n δ φ) held C.fuel C.depth C.end ψ C.stands).1

pub inside_had : (takes : Bool) (inner : List ℕ) → takes ≡ true → (t : Bool) → IsEmpty inner t → HasPattern takes inner (not t)
inside_had takes inner fills true none = inr none
inside_had takes inner fills false some = (fills, some)

-- The element itself, where the clause can fail for it.
pub told_where : (fails : Bool) (n at place : ℕ) → then_some fails (record { template = n; at = at; breach = Breaches.Clause place }) ≡ wrong_at n at (broken_if fails (Breaches.Clause place))
told_where true n at place = refl
told_where false n at place = refl

-- It has a pattern exactly if its attributes and all inside it have something to take.
pub pattern_had : (φs : List Items) (G : Summary) → Bounded φs G → (ψ : Formula) (X : Sets) (n e mark : ℕ) (δ : List Attribute) (φ : Items) (takes : Bool)
    → takes ≡ attributes_take G n δ → (inner : List ℕ) → Is (patterns_by ψ) inner (patterns φs G (patterns_by ψ) X n φ) → (y : Bool) → HasPattern takes inner y
    → y ≡ item_takes φs G (patterns_by ψ) X n (Items.element e mark δ φ)
unfolding all_take
pattern_had φs G bounded ψ X n e mark δ φ takes fills inner is = go
  where
    some : any_below (patterns_by ψ).size (patterns φs G (patterns_by ψ) X n φ) ≡ all_take φs G (patterns_by ψ) X n φ
    some = some_pattern φs G bounded (patterns_by ψ) (clause_lawful ψ) (clause_monoid ψ) X n φ

    go : (y : Bool) → HasPattern takes inner y → y ≡ (attributes_take G n δ && all_take φs G (patterns_by ψ) X n φ)
    go true (t, (x, l, h)) =
        let b = held_below inner _ is x h in
        sym (and_both _ _ (sym fills ∙ t) (sym some ∙ any_below_lem (patterns_by ψ).size (patterns φs G (patterns_by ψ) X n φ) x b (sym (is.inside x b) ∙ h)))
    go false (inl t) = rw (sym fills ∙ t)
    go false (inr none) =
        let lacking : all_take φs G (patterns_by ψ) X n φ ≡ false = sym some ∙ refuted _ (λ q.
        let (x, l, p) = below_any (patterns_by ψ).size (patterns φs G (patterns_by ψ) X n φ) q in
        false≢true (sym (none x) ∙ (is.inside x l ∙ p))) in
        sym (ap (λ (b : Bool). attributes_take G n δ && b) lacking ∙ and-false (attributes_take G n δ))

module _ (s : List ℕ) (at e : ℕ) (start : Position) (c : Clause) (words : List ℕ) (takes : List (List ℕ)) (n : ℕ) (list : FoundItems) where
  -- An element of another name.
  pub other_element : (e ≡ c.element → ⊥) → (filled : Filled) → AttributesTake s start.at words n filled → SearchesItems s filled.next.at c words takes n list
      → (y : Bool) → HasPattern filled.takes list.set y → SearchesElement s at e start c words takes n (record { yields = y; wrong = list.wrong; next = list.next })
  unfolding lowest_in
  other_element other filled F L y Y φs G ψ X S ruled f depth end i reads here =
      let I = element_item f Template ruled s depth at i end reads (Element e start) here e start refl in
      let done = no_attribute I.fuel Template ruled s (depth + 1) I.inside I.contents end I.reads_contents in
      let (fills, after) = F G S.keeps [] I.fuel I.inside I.named I.reads_attributes done in
      let l = L φs G ψ X S ruled I.fuel (depth + 1) end I.contents
      (subst (λ (k : ℕ). items I.fuel Template ruled s (depth + 1) k ≡ whole I.contents end) (sym after) I.reads_contents) in
      let p = fails_at φs G ψ X c.place n c.element in
      rw I.is_it (record {
        ends = l.ends;
        yields = pattern_had φs G S.bounded ψ X n e at I.named I.contents filled.takes fills list.set l.is y Y;
        finds = l.finds ∙ sym (ap (λ (t : Bool). lower_wrong (wrong_at n at (told_if t (broken_if (clause_fails φs G ψ X n I.named I.contents) (Breaches.Clause c.place)))) (lowest_in n p I.contents)) (ne_eqb e c.element other));
      })

  -- One of the clause's name: itself, and those inside it.
  pub own_element : e ≡ c.element → (named : Attributes) → AttributePatterns s start.at c.facts c.scheme words n named
      → SearchesItems s named.next.at c words takes n list → (fails : Bool) → CanFail s c named.set list.set fails
      → (own : MaybeWrong) → own ≡ wrong_at n at (broken_if fails (Breaches.Clause c.place)) → (y : Bool) → HasPattern named.takes list.set y
      → (wrong : MaybeWrong) → wrong ≡ lower_wrong own list.wrong → SearchesElement s at e start c words takes n (record { yields = y; wrong = wrong; next = list.next })
  unfolding lowest_in
  own_element same named N L fails F own is_own y Y wrong is_wrong φs G ψ X S ruled f depth end i reads here =
      let I = element_item f Template ruled s depth at i end reads (Element e start) here e start refl in
      let δ = I.named in
      let φ = I.contents in
      let C = S.clause in
      let done = no_attribute I.fuel Template ruled s (depth + 1) I.inside φ end I.reads_contents in
      let m = N ψ G C.represents C.reads S.keeps I.fuel I.inside δ I.reads_attributes done in
      let l = L φs G ψ X S ruled I.fuel (depth + 1) end φ (subst (λ (k : ℕ). items I.fuel Template ruled s (depth + 1) k ≡ whole φ end) (sym m.ends) I.reads_contents) in
      let told : fails ≡ clause_fails φs G ψ X n δ φ = F φs G ψ X C n δ φ m.patterned l.is in
      let mine : own ≡ wrong_at n at (fails_at φs G ψ X c.place n c.element e at δ φ) =
      is_own ∙ ap (λ (b : Bool). wrong_at n at (broken_if b (Breaches.Clause c.place))) told
      ∙ sym (ap (λ (t : Bool). wrong_at n at (told_if t (broken_if (clause_fails φs G ψ X n δ φ) (Breaches.Clause c.place)))) (eq-eqb e c.element same)) in
      rw I.is_it (record {
        ends = l.ends;
        yields = pattern_had φs G S.bounded ψ X n e at δ φ named.takes m.takes list.set l.is y Y;
        finds = is_wrong ∙ ap₂ lower_wrong mine l.finds;
      })

-- ---- a list of items

module _ (s : List ℕ) (c : Clause) (words : List ℕ) (takes : List (List ℕ)) (n : ℕ) where
  -- What the patterns of a list are about, where it is searched.
  abbrev pub SearchedBy : List Items → Summary → Morphism → Sets → Type 0
  SearchedBy φs G M X = (ψ : Formula) × (M ≡ patterns_by ψ) × Searching s c words takes n φs G ψ X

  pub searched_lent : (φs : List Items) (G : Summary) (M : Morphism) (X : Sets) → SearchedBy φs G M X → LentSets c.scheme words n takes φs G M X
  searched_lent φs G M X (ψ, is, S) = subst (λ (M : Morphism). LentSets c.scheme words n takes φs G M X) (sym is)
      (record { used = of_clause ψ; reads = of_facts S.clause.reads; bounded = S.bounded; keeps = S.keeps }, S.gaps)

  -- An element that was searched, as the walk over its list takes it.
  pub element_known : (at e : ℕ) (start : Position) (own : FoundElement) → SearchesElement s at e start c words takes n own → (h : ItemHere) → h ≡ item_here s at → h ≡ Element e start
      → (φs : List Items) (G : Summary) (M : Morphism) (X : Sets) → SearchedBy φs G M X → (ruled : ℕ → Bool) (f depth end : ℕ) (i : Item)
      → item f Template ruled s depth at ≡ whole i end → (own.yields ≡ item_takes φs G M X n i) × (own.next.at ≡ end)
  element_known at e start own E h is stands φs G M X (ψ, same, S) ruled f depth end i reads =
      let w = E φs G ψ X S ruled f depth end i reads (sym stands ∙ is) in
      (w.yields ∙ ap (λ (M : Morphism). item_takes φs G M X n i) (sym same), w.ends)

  -- What the items from an offset on add to what was found before.
  pub record Added (φs : List Items) (G : Summary) (ψ : Formula) (X : Sets) (wrong : MaybeWrong) (φ : Items) (end : ℕ) (next : Position) (found : MaybeWrong) : Type 0 where
    pub ends : next.at ≡ end
    pub finds : found ≡ lower_wrong wrong (lowest_in n (fails_at φs G ψ X c.place n c.element) φ)

  abbrev pub Adds : MaybeWrong → ℕ → Position → MaybeWrong → Type 0
  Adds wrong at next found = OfSearch s c words takes n (λ φs G ψ X. (ruled : ℕ → Bool) (f depth end : ℕ) (φ : Items)
      → items f Template ruled s depth at ≡ whole φ end → Added φs G ψ X wrong φ end next found)

  pub adds_all : (at : ℕ) (r : FoundItems) → Adds None at r.next r.wrong
      → ListHas s c.scheme words n takes SearchedBy searched_lent at (record { set = r.set; next = r.next }) → SearchesItems s at c words takes n r
  adds_all at r A L φs G ψ X S ruled f depth end φ e =
      let a = A φs G ψ X S ruled f depth end φ e in
      record { ends = a.ends; is = (L φs G (patterns_by ψ) X (ψ, refl, S) ruled f depth end φ e).is; finds = a.finds }

  module _ (wrong : MaybeWrong) (at : ℕ) (h : ItemHere) (is : h ≡ item_here s at) where
    pub adds_end : (next : Position) → h ≡ End next → Adds wrong at next wrong
    unfolding lowest_in
    adds_end next q φs G ψ X S ruled f depth end φ e =
        let F = end_first f Template ruled s depth at φ end e h is next q in
        rw F.no_more (record { ends = F.after; finds = sym (lower_nowhere wrong) })

    module _ (after : Position) (found : MaybeWrong) where
      -- An item that is no element adds none.
      adds_leaf : (i : Item) → ((test : Test) → lowest_of n test i ≡ None) → (next : Position)
          → ((ruled : ℕ → Bool) (f depth end : ℕ) (φ : Items) → items f Template ruled s depth at ≡ whole φ end → LeafFirst Template ruled s depth at i next φ end)
          → Adds wrong next.at after found → Adds wrong at after found
      unfolding lowest_in
      adds_leaf i none_in next first A φs G ψ X S ruled f depth end φ e =
          let F = first ruled f depth end φ e in
          let a = A φs G ψ X S ruled F.fuel depth end F.rest F.reads_rest in
          rw F.is_more (record { ends = a.ends; finds = rw (none_in (fails_at φs G ψ X c.place n c.element)) a.finds })

      pub adds_text : (next : Position) → h ≡ Text next → Adds wrong next.at after found → Adds wrong at after found
      unfolding lowest_in
      adds_text next q = adds_leaf Items.text (λ test. refl) next λ ruled f depth end φ e. text_first f Template ruled s depth at φ end e h is next q

      pub adds_blank : (next : Position) → h ≡ Blank next → Adds wrong next.at after found → Adds wrong at after found
      unfolding lowest_in
      adds_blank next q = adds_leaf Items.blank (λ test. refl) next λ ruled f depth end φ e. blank_first f Template ruled s depth at φ end e h is next q

      pub adds_gap : (g : ℕ) (next : Position) → h ≡ Gap g next → Adds wrong next.at after found → Adds wrong at after found
      unfolding lowest_in
      adds_gap g next q = adds_leaf (Items.gap g) (λ test. refl) next λ ruled f depth end φ e. (gap_first f Template ruled s depth at φ end e h is g next q).leaf

      pub adds_element : (e : ℕ) (start : Position) → h ≡ Element e start → (own : FoundElement) → SearchesElement s at e start c words takes n own
          → (wrong' : MaybeWrong) → wrong' ≡ lower_wrong wrong own.wrong → Adds wrong' own.next.at after found → Adds wrong at after found
      unfolding lowest_in
      adds_element e start q own E wrong' is_wrong A φs G ψ X S ruled f depth end φ reads =
          let F = element_first f Template ruled s depth at φ end reads h is e start q in
          let i = Items.element e at F.named F.contents in
          let w = E φs G ψ X S ruled F.fuel depth F.middle i F.reads_first (sym q ∙ is) in
          let a = A φs G ψ X S ruled F.fuel depth end F.rest (subst (λ (k : ℕ). items F.fuel Template ruled s depth k ≡ whole F.rest end) (sym w.ends) F.reads_rest) in
          let p = fails_at φs G ψ X c.place n c.element in
          let rest = lowest_in n p F.rest in
          rw F.is_more (record {
            ends = a.ends;
            finds = a.finds ∙ ap (λ (x : MaybeWrong). lower_wrong x rest) is_wrong ∙ lower_assoc wrong own.wrong rest
                ∙ ap (λ (x : MaybeWrong). lower_wrong wrong (lower_wrong x rest)) w.finds;
          })

  -- Where the search has come: what is left from here on, added to what was found, is what all of it adds to nothing; and the patterns
  -- of the list so far.
  pub record Going (first : ℕ) (line : Line) (at : ℕ) (wrong : MaybeWrong) : Type 0 where
    pub listed : ListTo s c.scheme words n takes SearchedBy searched_lent first line at
    pub goes : (next : Position) (found : MaybeWrong) → Adds wrong at next found → Adds None first next found
