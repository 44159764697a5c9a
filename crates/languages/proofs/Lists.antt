-- The items of a template from the left: the set of what was passed, then the item's, then those of the others. The product is
-- associative and the empty word's pattern its unit, so this is the set of all. An item that has no pattern leaves none.
use Prim.Native.Nat.{ℕ, ◌+◌, ◌<◌, ◌≤◌}
use mathlib.Core.Path.{◌≡◌, refl, sym, ap, ◌∙◌}
use mathlib.Core.List.{List, [], ◌∷◌}
use mathlib.Core.Bool.{Bool, true, false, ◌&&◌, and-true, and-false, and_assoc, false≢true}
use native.Mathlib.Omega.{arith}
use lib.Dec.{eqb}
use Rattle.commands.specs.declared.Position.{Position}
use Rattle.commands.specs.Reading.{whole}
use Rattle.pages.specs.declared.Kind.TheVariants.{Template}
use Rattle.pages.specs.declared.ItemHere.{ItemHere}
use Rattle.pages.specs.declared.ItemHere.TheVariants.{Text, Gap, Element, Blank, End}
use Rattle.pages.specs.declared.AttributeHere.{AttributeHere}
use Rattle.pages.specs.declared.AttributeHere.TheVariants.{Fixed, Open, Done}
use Rattle.pages.specs.Items.{open_gap, Attribute, Item, text, blank, gap, element, Items, more}
use Rattle.pages.specs.ItemReading.{attributes, item, items}
use Rattle.pages.specs.Inner.Steps.{item_here, attribute_here}
use Rattle.pages.proofs.Steps.{text_first, blank_first, gap_first, element_first, end_first, fixed_first, open_first, none_first}
use Rattle.summaries.specs.Summaries.{Summary}
use Rattle.patterns.specs.Inner.Morphisms.{Morphism}
use Rattle.patterns.specs.Inner.Rounds.{Set, Sets, only, any_below, value_takes, attributes_take, all_take, item_takes, product, patterns, item_patterns}
use Rattle.patterns.proofs.Tests.{any_below_lem, below_any}
use Rattle.sets.proofs.Booleans.{and_left, and_right, refuted}
use Rattle.patterns.proofs.Exact.{in_product, factors}
use Rattle.patterns.proofs.Products.{product_assoc, product_unit_left, product_unit_right, some_pattern}
use Rattle.pattern_sets.specs.Inner.PatternSets.{holds, IsEmpty}
use Rattle.schemes.specs.declared.Scheme.{Scheme}
use Rattle.schemes.specs.Inner.Promises.{PatternOfOne}
use Rattle.graphs.specs.Inner.Graphs.{Keeps}
use Rattle.languages.specs.declared.Filled.{Filled}
use Rattle.languages.specs.declared.Line.{Line}
use Rattle.languages.specs.declared.Patterned.{Patterned}
use Rattle.languages.specs.Inner.Tables.{GapSetsAre, Lent, Has}
use Rattle.languages.specs.Inner.Promises.{AttributesTake, LineIs, LineOf, LineWithContent, LineWithGap, LineWithElement, ElementPatterns, ListPatterns}
use Rattle.languages.proofs.Uses.{lawful, monoid, is_as, held_below, product_as, one_pattern, unit_set}
use Rattle.languages.proofs.Lines.{line_as}

-- ---- attributes

module _ (s graph : List ℕ) (n : ℕ) where
  -- What the attributes from an offset on add to what was found before.
  abbrev pub TakeFrom : Bool → ℕ → Filled → Type 0
  TakeFrom t at r = (G : Summary) → Keeps graph G → (before : List ℕ) (f end : ℕ) (δ : List Attribute) → attributes f Template s before at ≡ whole δ end
      → attribute_here s end ≡ Done → (r.takes ≡ (t && attributes_take G n δ)) × (r.next.at ≡ end)

  pub record TakingTo (start : ℕ) (t : Bool) (at : ℕ) : Type 0 where
    pub forward : start ≤ at
    pub goes : (r : Filled) → TakeFrom t at r → AttributesTake s start graph n r

  pub taking_begins : (at : ℕ) → TakingTo at true at
  taking_begins at = record { forward = omega arith; goes = λ r h. h }

  module _ (start : ℕ) (t : Bool) (at : ℕ) (so_far : TakingTo start t at) (h : AttributeHere) (is : h ≡ attribute_here s at) where
    pub taking_fixed : (a v : ℕ) (next : Position) → h ≡ Fixed a v next → at < next.at → TakingTo start t next.at
    unfolding attributes_take
    taking_fixed a v next e on = record {
      forward = omega (arith, so_far.forward);
      goes = λ r go. so_far.goes r (λ G keeps before f end δ reads done.
          let q = (fixed_first f Template s before at δ end reads done h is a v next e).0 in
          rw q.is_more (go G keeps (a ∷ before) q.fuel end q.rest q.reads_rest done));
    }

    pub taking_open : (a g : ℕ) (next : Position) → h ≡ Open a g next → at < next.at → (u : Bool) → ((G : Summary) → Keeps graph G → g < 8 → u ≡ value_takes G n (open_gap g))
        → (t' : Bool) → t' ≡ (t && u) → TakingTo start t' next.at
    unfolding attributes_take
    taking_open a g next e on u is_u t' is_t = record {
      forward = omega (arith, so_far.forward);
      goes = λ r go. so_far.goes r (λ G keeps before f end δ reads done.
          let (q, low, k) = open_first f Template s before at δ end reads done h is a g next e in
          let (takes, after) = go G keeps (a ∷ before) q.fuel end q.rest q.reads_rest done in
          rw q.is_more (takes ∙ (rw (is_t, is_u G keeps low) (and_assoc t (value_takes G n (open_gap g)) (attributes_take G n q.rest))), after));
    }

    pub taking_done : (r : Filled) → h ≡ Done → r ≡ record { takes = t; next = record { at = at } } → AttributesTake s start graph n r
    unfolding attributes_take
    taking_done r e r-is = so_far.goes r (λ G keeps before f end δ reads done.
        let q = none_first f Template s before at δ end reads done h is e in
        rw (r-is, q.no_more) (sym (and-true t), q.here))

-- ---- an element

module _ (φs : List Items) (G : Summary) (M : Morphism) (X : Sets) (n e mark : ℕ) (δ : List Attribute) (φ : Items) where
  -- Its own pattern, or none.
  pub element_full : attributes_take G n δ ≡ true → all_take φs G M X n φ ≡ true → (x : ℕ) → item_patterns φs G M X n (element e mark δ φ) x ≡ only (M.of (e ∷ [])) x
  unfolding patterns
  element_full a t x = rw (a, t)

  pub element_held : (x : ℕ) → item_patterns φs G M X n (element e mark δ φ) x ≡ true → (y : ℕ) → item_patterns φs G M X n (element e mark δ φ) y ≡ only (M.of (e ∷ [])) y
  unfolding patterns
  element_held x h = element_full (and_left (attributes_take G n δ) (all_take φs G M X n φ) t) (and_right (attributes_take G n δ) (all_take φs G M X n φ) t)
    where
      t : (attributes_take G n δ && all_take φs G M X n φ) ≡ true
      t = and_left (attributes_take G n δ && all_take φs G M X n φ) (only (M.of (e ∷ [])) x) h

  pub element_unfilled : attributes_take G n δ ≡ false → (x : ℕ) → item_patterns φs G M X n (element e mark δ φ) x ≡ false
  unfolding patterns
  element_unfilled a x = rw a

  pub element_stuck : all_take φs G M X n φ ≡ false → (x : ℕ) → item_patterns φs G M X n (element e mark δ φ) x ≡ false
  unfolding patterns
  element_stuck t x = rw (t, and-false (attributes_take G n δ))

  pub element_barren : item_takes φs G M X n (element e mark δ φ) ≡ false → (x : ℕ) → item_patterns φs G M X n (element e mark δ φ) x ≡ false
  unfolding patterns
  element_barren t x = rw t

-- No pattern.
has_none : {M : Morphism} (A : Set) (end : ℕ) (p : Patterned) → ((x : ℕ) → holds p.set x ≡ false) → ((x : ℕ) → x < M.size → A x ≡ false) → Has M A end p
has_none A end p none nothing = record {
  is = record { inside = λ x h. none x ∙ sym (nothing x h); outside = λ x h. none x };
  ends = λ x h. absurd (false≢true (sym (none x) ∙ h));
}

module _ (s : List ℕ) (at e : ℕ) (r : Scheme) (graph : List ℕ) (n : ℕ) (takes : List (List ℕ)) (filled : Filled) (F : AttributesTake s at graph n filled) where
  pub unfilled : filled.takes ≡ false → (p : Patterned) → ((x : ℕ) → holds p.set x ≡ false) → ElementPatterns s at e r graph n takes p
  unfilled lacking p none φs G M X lent sets ruled f depth inside end mark δ φ named done contents =
      let (t, after) = F G lent.keeps [] f inside δ named done in
      has_none {M = M} _ end p none (λ x h. element_unfilled φs G M X n e mark δ φ (sym t ∙ lacking) x)

  module _ (list : Patterned) (L : ListPatterns s filled.next.at r graph n takes list) (t : Bool) (empty : IsEmpty list.set t) where
    -- The list inside, whose patterns tell whether its gaps have something to take.
    module _ (φs : List Items) (G : Summary) (M : Morphism) (X : Sets) (lent : Lent r graph φs G M) (sets : GapSetsAre φs G M X n takes)
        (ruled : ℕ → Bool) (f depth inside end : ℕ) (δ : List Attribute) (φ : Items) (named : attributes f Template s [] at ≡ whole δ inside)
        (done : attribute_here s inside ≡ Done) (contents : items f Template ruled s depth inside ≡ whole φ end) where
      has : Has M (patterns φs G M X n φ) end list
      has = L φs G M X lent sets ruled f depth end φ (rw (F G lent.keeps [] f inside δ named done).1 contents)

      some : any_below M.size (patterns φs G M X n φ) ≡ all_take φs G M X n φ
      some = some_pattern φs G lent.bounded M (lawful lent.used) (monoid lent.used) X n φ

    pub stuck : t ≡ true → ElementPatterns s at e r graph n takes list
    stuck yes' φs G M X lent sets ruled f depth inside end mark δ φ named done contents =
        let H = has φs G M X lent sets ruled f depth inside end δ φ named done contents in
        let none = is_none_lem t yes' empty in
        has_none {M = M} _ end list none (λ y k. element_stuck φs G M X n e mark δ φ
        (sym (some φs G M X lent sets ruled f depth inside end δ φ named done contents) ∙ refuted _ (λ q.
        let (x, l, p) = below_any M.size (patterns φs G M X n φ) q in
        false≢true (sym (none x) ∙ (H.is.inside x l ∙ p)))) y)
      where
        is_none_lem : (u : Bool) → u ≡ true → IsEmpty list.set u → (x : ℕ) → holds list.set x ≡ false
        is_none_lem true q em = em
        is_none_lem false q em = absurd (false≢true q)

    pub full : t ≡ false → filled.takes ≡ true → (p : ℕ) → PatternOfOne r e p → (own : List ℕ) → ((y : ℕ) → holds own y ≡ eqb y p)
        → ElementPatterns s at e r graph n takes (record { set = own; next = list.next })
    full held yes' p one own own_is φs G M X lent sets ruled f depth inside end mark δ φ named done contents =
        let H = has φs G M X lent sets ruled f depth inside end δ φ named done contents in
        let (x, h) = is_some t held empty in
        let (tk, after) = F G lent.keeps [] f inside δ named done in
        let takes_all : all_take φs G M X n φ ≡ true = sym (some φs G M X lent sets ruled f depth inside end δ φ named done contents)
        ∙ any_below_lem M.size (patterns φs G M X n φ) x (held_below list.set _ H.is x h) (sym (H.is.inside x (held_below list.set _ H.is x h)) ∙ h)
        in
        record {
          is = is_as own (only (M.of (e ∷ []))) _
              (one_pattern own (M.of (e ∷ [])) ((lawful lent.used).below (e ∷ [])) (λ y. own_is y ∙ ap (eqb y) (one M lent.reads)))
              (λ y l. sym (element_full φs G M X n e mark δ φ (sym tk ∙ yes') takes_all y));
          ends = λ y q. H.ends x h;
        }
      where
        is_some : (u : Bool) → u ≡ false → IsEmpty list.set u → (x : ℕ) × (holds list.set x ≡ true)
        is_some true q em = absurd (false≢true (sym q))
        is_some false q (x, l, h) = (x, h)

-- ---- a list

-- What is lent with the sets of the gaps of template n.
abbrev pub LentSets : Scheme → List ℕ → ℕ → List (List ℕ) → List Items → Summary → Morphism → Sets → Type 0
LentSets r graph n takes φs G M X = Lent r graph φs G M × GapSetsAre φs G M X n takes

-- A walk may know more of the templates, graph, morphism and sets that it is about: P.
module _ (s : List ℕ) (r : Scheme) (graph : List ℕ) (n : ℕ) (takes : List (List ℕ)) (P : List Items → Summary → Morphism → Sets → Type 0)
    (given : (φs : List Items) (G : Summary) (M : Morphism) (X : Sets) → P φs G M X → LentSets r graph n takes φs G M X) where
  -- The patterns of the items from an offset on; and what they add to what was passed.
  abbrev pub ListHas : ℕ → Patterned → Type 0
  ListHas at p = (φs : List Items) (G : Summary) (M : Morphism) (X : Sets) → P φs G M X → (ruled : ℕ → Bool) (f depth end : ℕ) (φ : Items)
      → items f Template ruled s depth at ≡ whole φ end → Has M (patterns φs G M X n φ) end p

  abbrev pub ListFrom : Line → ℕ → Patterned → Type 0
  ListFrom line at p = (φs : List Items) (G : Summary) (M : Morphism) (X : Sets) → P φs G M X → (A : Set) → LineIs M takes line A
      → (ruled : ℕ → Bool) (f depth end : ℕ) (φ : Items) → items f Template ruled s depth at ≡ whole φ end → Has M (product M A (patterns φs G M X n φ)) end p

  pub record ListTo (start : ℕ) (line : Line) (at : ℕ) : Type 0 where
    pub forward : start ≤ at
    pub goes : (p : Patterned) → ListFrom line at p → ListHas start p

  has_as : {M : Morphism} (A B : Set) (end : ℕ) (p : Patterned) → Has M A end p → ((x : ℕ) → x < M.size → A x ≡ B x) → Has M B end p
  has_as A B end p h same = record { is = is_as p.set A B h.is same; ends = h.ends }

  pub list_begins : (at : ℕ) (line : Line) (unit : List ℕ) → ((y : ℕ) → holds unit y ≡ eqb y 0) → LineOf unit line → ListTo at line at
  list_begins at line unit is new = record {
    forward = omega arith;
    goes = λ p h φs G M X known ruled f depth end φ e.
        let lent = (given φs G M X known).0 in
        has_as _ _ end p (h φs G M X known (only (M.of [])) (new M takes _ (unit_set lent.reads lent.used unit is)) ruled f depth end φ e)
        (product_unit_left M (monoid lent.used) (patterns φs G M X n φ));
  }

  module _ (start : ℕ) (line : Line) (at : ℕ) (so_far : ListTo start line at) (h : ItemHere) (is : h ≡ item_here s at) where
    -- One item more, then the others.
    further : (longer : Line) (next : ℕ) → at ≤ next
        → ((φs : List Items) (G : Summary) (M : Morphism) (X : Sets) → P φs G M X → (A : Set) → LineIs M takes line A
        → (ruled : ℕ → Bool) (f depth end : ℕ) (φ : Items) → items f Template ruled s depth at ≡ whole φ end
        → (i : Item) × (ψ : Items) × (g : ℕ) × (φ ≡ more i ψ) × (items g Template ruled s depth next ≡ whole ψ end) × LineIs M takes longer (product M A (item_patterns φs G M X n i)))
        → ListTo start longer next
    unfolding patterns
    further longer next on step = record {
      forward = omega (arith, so_far.forward);
      goes = λ p go. so_far.goes p (λ φs G M X known A l ruled f depth end φ e.
          let (i, ψ, g, is_more, rest, longer_is) = step φs G M X known A l ruled f depth end φ e in
          rw is_more (has_as _ _ end p (go φs G M X known (product M A (item_patterns φs G M X n i)) longer_is ruled g depth end ψ rest)
          (λ x b. product_assoc M (monoid (given φs G M X known).0.used) A (item_patterns φs G M X n i) (patterns φs G M X n ψ) x)));
    }

    pub list_text : (next : Position) → h ≡ Text next → at < next.at → (longer : Line) → LineWithContent r line 0 longer → ListTo start longer next.at
    unfolding patterns
    list_text next e on longer W = further longer next.at (omega arith) (λ φs G M X known A l ruled f depth end φ reads.
        let (lent, sets) = given φs G M X known in
        let q = text_first f Template ruled s depth at φ end reads h is next e in
        (text, q.rest, q.fuel, q.is_more, q.reads_rest, W M lent.reads lent.used takes A l))

    -- Blank text has the empty word's pattern alone, the unit.
    pub list_blank : (next : Position) → h ≡ Blank next → at < next.at → ListTo start line next.at
    unfolding patterns
    list_blank next e on = further line next.at (omega arith) (λ φs G M X known A l ruled f depth end φ reads.
        let q = blank_first f Template ruled s depth at φ end reads h is next e in
        let same = product_unit_right M (monoid (given φs G M X known).0.used) A in
        (blank, q.rest, q.fuel, q.is_more, q.reads_rest, line_as takes line A _ l (λ x k. sym (same x k))))

    pub list_gap : (g : ℕ) (next : Position) → h ≡ Gap g next → at < next.at → (longer : Line) → LineWithGap r takes line g longer → ListTo start longer next.at
    unfolding patterns
    list_gap g next e on longer W = further longer next.at (omega arith) (λ φs G M X known A l ruled f depth end φ reads.
        let (lent, sets) = given φs G M X known in
        let q = gap_first f Template ruled s depth at φ end reads h is g next e in
        (gap g, q.leaf.rest, q.leaf.fuel, q.leaf.is_more, q.leaf.reads_rest, W M lent.reads A _ l (sets g q.small)))

    -- A gap after which there is no pattern.
    pub list_none : (g : ℕ) (next : Position) → h ≡ Gap g next → (longer : Line) → LineWithGap r takes line g longer → (t : Bool) → t ≡ true → IsEmpty longer.set t
        → (p : Patterned) → p.set ≡ longer.set → ListHas start p
    unfolding patterns
    list_none g next e longer W false yes' empty p same = absurd (false≢true yes')
    list_none g next e longer W true yes' empty p same = so_far.goes p (λ φs G M X known A l ruled f depth end φ reads.
        let (lent, sets) = given φs G M X known in
        let q = gap_first f Template ruled s depth at φ end reads h is g next e in
        let L = W M lent.reads A _ l (sets g q.small) in
        rw q.leaf.is_more (has_none {M = M} _ end p (λ x. rw same (empty x)) (λ x b. refuted _ (λ held.
        let f₁ = factors M A (product M (item_patterns φs G M X n (gap g)) (patterns φs G M X n q.leaf.rest)) x held in
        let f₂ = factors M (item_patterns φs G M X n (gap g)) (patterns φs G M X n q.leaf.rest) f₁.second f₁.in_second in
        let z = (monoid lent.used).closed f₁.first f₂.first f₁.first_below f₂.first_below in
        false≢true (sym (empty (M.op f₁.first f₂.first)) ∙ (L.is.inside (M.op f₁.first f₂.first) z
        ∙ in_product M A (item_patterns φs G M X n (gap g)) f₁.first f₂.first _ f₁.first_below f₂.first_below f₁.in_first_lem f₂.in_first_lem refl))))))

    module _ (e : ℕ) (inside : Position) (stands : h ≡ Element e inside) (own : Patterned) (E : ElementPatterns s inside.at e r graph n takes own) (t : Bool) (empty : IsEmpty own.set t) where
      pub list_element : t ≡ false → at ≤ own.next.at → (longer : Line) → LineWithContent r line e longer → ListTo start longer own.next.at
      list_element held on longer W = further longer own.next.at on (λ φs G M X known A l ruled f depth end φ reads.
          let (lent, sets) = given φs G M X known in
          let q = element_first f Template ruled s depth at φ end reads h is e inside stands in
          let H = E φs G M X lent sets ruled q.fuel_inside (depth + 1) q.inside q.middle at q.named q.contents q.reads_attributes q.done q.reads_contents in
          let (x, p) = is_some t held empty in
          let b = held_below own.set _ H.is x p in (
            element e at q.named q.contents,
            q.rest,
            q.fuel,
            q.is_more,
            rw (H.ends x p) q.reads_rest,
            line_as takes longer _ _ (W M lent.reads lent.used takes A l) (λ y k. product_as M A A _ _ (λ z m. refl)
                (λ z m. sym (element_held φs G M X n e at q.named q.contents x (sym (H.is.inside x b) ∙ p) z)) y),
          ))
        where
          is_some : (u : Bool) → u ≡ false → IsEmpty own.set u → (x : ℕ) × (holds own.set x ≡ true)
          is_some true q em = absurd (false≢true (sym q))
          is_some false q (x, k, p) = (x, p)

      -- An element that has no pattern.
      pub list_nothing : t ≡ true → ListHas start own
      unfolding patterns
      list_nothing yes' = so_far.goes own (λ φs G M X known A l ruled f depth end φ reads.
          let (lent, sets) = given φs G M X known in
          let q = element_first f Template ruled s depth at φ end reads h is e inside stands in
          let H = E φs G M X lent sets ruled q.fuel_inside (depth + 1) q.inside q.middle at q.named q.contents q.reads_attributes q.done q.reads_contents in
          let none = is_none_lem t yes' empty in
          rw q.is_more (has_none {M = M} _ end own none (λ x b. refuted _ (λ held.
          let f₁ = factors M A (product M (item_patterns φs G M X n (element e at q.named q.contents)) (patterns φs G M X n q.rest)) x held in
          let f₂ = factors M (item_patterns φs G M X n (element e at q.named q.contents)) (patterns φs G M X n q.rest) f₁.second f₁.in_second in
          false≢true (sym (none f₂.first) ∙ (H.is.inside f₂.first f₂.first_below ∙ f₂.in_first_lem))))))
        where
          is_none_lem : (u : Bool) → u ≡ true → IsEmpty own.set u → (x : ℕ) → holds own.set x ≡ false
          is_none_lem true q em = em
          is_none_lem false q em = absurd (false≢true q)

    -- An element of which it is known whether it has a pattern, and where it ends.
    module _ (e : ℕ) (inside : Position) (stands : h ≡ Element e inside) (y : Bool) (next : ℕ) (on : at ≤ next)
        (told : (φs : List Items) (G : Summary) (M : Morphism) (X : Sets) → P φs G M X → (ruled : ℕ → Bool) (f depth end : ℕ) (i : Item)
        → item f Template ruled s depth at ≡ whole i end → (y ≡ item_takes φs G M X n i) × (next ≡ end)) where
      pub list_known : (longer : Line) → LineWithElement r line e y longer → ListTo start longer next
      unfolding all_take
      list_known longer = go y refl
        where
          first : (φs : List Items) (G : Summary) (M : Morphism) (X : Sets) → P φs G M X → (ruled : ℕ → Bool) (f depth end : ℕ) (φ : Items)
              → items f Template ruled s depth at ≡ whole φ end → (δ : List Attribute) × (within rest : Items) × (g : ℕ) × (φ ≡ more (element e at δ within) rest)
              × (items g Template ruled s depth next ≡ whole rest end) × (y ≡ item_takes φs G M X n (element e at δ within))
          first φs G M X known ruled f depth end φ reads =
              let q = element_first f Template ruled s depth at φ end reads h is e inside stands in
              let (takes_all, ends) = told φs G M X known ruled q.fuel depth q.middle (element e at q.named q.contents) q.reads_first in
              (q.named, q.contents, q.rest, q.fuel, q.is_more, rw ends q.reads_rest, takes_all)

          go : (t : Bool) → y ≡ t → LineWithElement r line e t longer → ListTo start longer next
          go true yes' W = further longer next on (λ φs G M X known A l ruled f depth end φ reads.
              let (lent, sets) = given φs G M X known in
              let (δ, within, rest, g, is_more, reads_rest, takes_all) = first φs G M X known ruled f depth end φ reads in
              let all = sym takes_all ∙ yes' in (
                element e at δ within,
                rest,
                g,
                is_more,
                reads_rest,
                line_as takes longer _ _ (W M lent.reads lent.used takes A l) (λ x k. product_as M A A _ _ (λ z m. refl)
                    (λ z m. sym (element_full φs G M X n e at δ within (and_left (attributes_take G n δ) _ all) (and_right (attributes_take G n δ) _ all) z)) x),
              ))
          go false no' (none, nothing, new) = further longer next on (λ φs G M X known A l ruled f depth end φ reads.
              let (δ, within, rest, g, is_more, reads_rest, takes_all) = first φs G M X known ruled f depth end φ reads in
              let i = element e at δ within in (
                i,
                rest,
                g,
                is_more,
                reads_rest,
                new M takes _ (record {
                  inside = λ x b. nothing x ∙ sym (refuted _ (λ held.
                      let f₁ = factors M A (item_patterns φs G M X n i) x held in
                      false≢true (sym (element_barren φs G M X n e at δ within (sym takes_all ∙ no') f₁.second) ∙ f₁.in_second)));
                  outside = λ x b. nothing x;
                }),
              ))

    pub list_ends : (next : Position) → h ≡ End next → ListHas start (record { set = line.set; next = next })
    unfolding patterns
    list_ends next e = so_far.goes _ (λ φs G M X known A l ruled f depth end φ reads.
        let (lent, sets) = given φs G M X known in
        let q = end_first f Template ruled s depth at φ end reads h is next e in
        rw q.no_more (record { is = is_as line.set A _ l.is (λ x b. sym (product_unit_right M (monoid lent.used) A x b)); ends = λ x k. q.after }))

pub list_had : (s : List ℕ) (r : Scheme) (graph : List ℕ) (n : ℕ) (takes : List (List ℕ)) (at : ℕ) (p : Patterned)
    → ListHas s r graph n takes (LentSets r graph n takes) (λ φs G M X known. known) at p → ListPatterns s at r graph n takes p
list_had s r graph n takes at p h φs G M X lent sets = h φs G M X (lent, sets)
