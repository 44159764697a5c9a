-- The items of a template, one after the other, with the table that tells of their elements.
use Prim.Native.Nat.{ℕ, ◌+◌, ◌≤◌, ◌<◌}
use mathlib.Core.Path.{◌≡◌, refl, sym, subst, ◌∙◌}
use mathlib.Core.List.{List, []}
use mathlib.Core.Bool.{Bool, ◌||◌}
use lib.ListN.{length}
use lib.Dec.{eqb}
use Rattle.sets.specs.Sets.{member}
use Rattle.commands.specs.declared.Position.{Position}
use Rattle.commands.specs.Reading.{whole}
use Rattle.pages.specs.declared.Kind.TheVariants.{Template}
use Rattle.pages.specs.declared.ItemHere.{ItemHere}
use Rattle.pages.specs.declared.ItemHere.TheVariants.{Text, Gap, Element, Blank, End}
use Rattle.pages.specs.Items.{Item, Items}
use Rattle.pages.specs.Items as Items
use Rattle.pages.specs.ItemReading.{items}
use Rattle.pages.specs.Inner.Steps.{item_here, AfterAttributes}
use Rattle.pages.proofs.Steps.{LeafFirst, text_first, blank_first, gap_first, element_first, end_first, element_item, no_attribute}
use Rattle.reach.proofs.Outlining.{Outlined, outlined_none, outlined_all, outlined_text, outlined_blank, outlined_gap, outlined_element}
use Rattle.occurrences.specs.declared.Outer.{Outer}
use Rattle.occurrences.specs.Inner.Occurrences.{AllElements, AllElementsOf, Stands, AllTold, Keeps}
use Rattle.occurrences.specs.Inner.Promises.{TellsElement, TellsItems}
use Rattle.occurrences.proofs.Elements.{still_told}

module _ (s : List ℕ) (n : ℕ) where
  -- ---- an element

  pub element_told : (start : Position) (e : ℕ) (inside : Position) → AfterAttributes s start.at inside → (middle : List ℕ) → Stands middle n e
      → (list : Outer) (table : List ℕ) → Keeps middle table → TellsItems s inside.at n list table → TellsElement s start e n list.next table
  unfolding AllElements
  element_told start e inside A middle itself list table keeps L ruled f depth at end i reads here =
      let I = element_item f Template ruled s depth at i end reads (Element e start) here e start refl in
      let done = no_attribute I.fuel Template ruled s (depth + 1) I.inside I.contents end I.reads_contents in
      let m = A Template [] I.fuel I.inside I.named I.reads_attributes done in
      let l = L ruled I.fuel (depth + 1) end I.contents
      (subst (λ (k : ℕ). items I.fuel Template ruled s (depth + 1) k ≡ whole I.contents end) (sym m) I.reads_contents) in
      (l.ends, rw I.is_it ((keeps n e itself, l.tells), tt))

  -- ---- items

  -- What the items from an offset on add to contents and gaps that stood before them.
  pub record Added (contents gaps : ℕ) (φ : Items) (end : ℕ) (r : Outer) (table : List ℕ) : Type 0 where
    pub ends : r.next.at ≡ end
    pub outlined : Outlined contents gaps φ r.contents r.gaps
    pub tells : AllTold table n φ

  abbrev pub Adds : ℕ → ℕ → ℕ → Outer → List ℕ → Type 0
  Adds contents gaps at r table = (ruled : ℕ → Bool) (f depth end : ℕ) (φ : Items) → items f Template ruled s depth at ≡ whole φ end
      → Added contents gaps φ end r table

  pub adds_all : (at : ℕ) (r : Outer) (table : List ℕ) → Adds 0 0 at r table → TellsItems s at n r table
  adds_all at r table A ruled f depth end φ e =
      let a = A ruled f depth end φ e in
      record { ends = a.ends; outline = outlined_all φ r.contents r.gaps a.outlined; tells = a.tells }

  module _ (contents gaps at : ℕ) (h : ItemHere) (is : h ≡ item_here s at) where
    pub list_ends : (next : Position) → h ≡ End next → (table : List ℕ) → Adds contents gaps at (record { contents = contents; gaps = gaps; next = next }) table
    unfolding AllElements
    list_ends next q table ruled f depth end φ e =
        let F = end_first f Template ruled s depth at φ end e h is next q in
        rw F.no_more (record { ends = F.after; outlined = outlined_none contents gaps; tells = tt })

    module _ (r : Outer) (table : List ℕ) where
      -- An item that is no element, by what it adds to the outline.
      list_leaf : (i : Item) → AllElementsOf (λ e mark δ χ. Stands table n e) i → (next : Position) (contents' gaps' : ℕ)
          → ((φ : Items) (contents'' gaps'' : ℕ) → Outlined contents' gaps' φ contents'' gaps'' → Outlined contents gaps (Items.more i φ) contents'' gaps'')
          → ((ruled : ℕ → Bool) (f depth end : ℕ) (φ : Items) → items f Template ruled s depth at ≡ whole φ end → LeafFirst Template ruled s depth at i next φ end)
          → Adds contents' gaps' next.at r table → Adds contents gaps at r table
      unfolding AllElements
      list_leaf i told next contents' gaps' outline first A ruled f depth end φ e =
          let F = first ruled f depth end φ e in
          let a = A ruled F.fuel depth end F.rest F.reads_rest in
          rw F.is_more (record { ends = a.ends; outlined = outline F.rest r.contents r.gaps a.outlined; tells = (told, a.tells) })

      pub list_text : (next : Position) → h ≡ Text next → (contents' : ℕ) → ((k : ℕ) → member contents' k ≡ (eqb k 0 || member contents k))
          → Adds contents' gaps next.at r table → Adds contents gaps at r table
      unfolding AllElements
      list_text next q contents' is_contents = list_leaf Items.text tt next contents' gaps (λ φ x y. outlined_text contents gaps φ x y contents' is_contents)
          λ ruled f depth end φ e. text_first f Template ruled s depth at φ end e h is next q

      pub list_blank : (next : Position) → h ≡ Blank next → Adds contents gaps next.at r table → Adds contents gaps at r table
      unfolding AllElements
      list_blank next q = list_leaf Items.blank tt next contents gaps (outlined_blank contents gaps)
          λ ruled f depth end φ e. blank_first f Template ruled s depth at φ end e h is next q

      pub list_gap : (g : ℕ) → g < 8 → (next : Position) → h ≡ Gap g next → (gaps' : ℕ) → ((k : ℕ) → member gaps' k ≡ (eqb k g || member gaps k))
          → Adds contents gaps' next.at r table → Adds contents gaps at r table
      unfolding AllElements
      list_gap g small next q gaps' is_gaps = list_leaf (Items.gap g) tt next contents gaps' (λ φ x y. outlined_gap contents gaps φ x y g gaps' small is_gaps)
          λ ruled f depth end φ e. (gap_first f Template ruled s depth at φ end e h is g next q).leaf

      pub list_element : (e : ℕ) (start : Position) → h ≡ Element e start → (contents' : ℕ) → ((k : ℕ) → member contents' k ≡ (eqb k e || member contents k))
          → (next : Position) (middle : List ℕ) → Keeps middle table → TellsElement s start e n next middle
          → Adds contents' gaps next.at r table → Adds contents gaps at r table
      unfolding AllElements
      list_element e start q contents' is_contents next middle keeps T A ruled f depth end φ reads =
          let F = element_first f Template ruled s depth at φ end reads h is e start q in
          let t = T ruled F.fuel depth at F.middle (Items.element e at F.named F.contents) F.reads_first (sym q ∙ is) in
          let a = A ruled F.fuel depth end F.rest (subst (λ (k : ℕ). items F.fuel Template ruled s depth k ≡ whole F.rest end) (sym t.0) F.reads_rest) in
          let first = still_told middle table keeps n (Items.one (Items.element e at F.named F.contents)) t.1 in
          rw F.is_more (record {
            ends = a.ends;
            outlined = outlined_element contents gaps F.rest r.contents r.gaps e at F.named F.contents contents' is_contents a.outlined;
            tells = (first.0, a.tells);
          })

  -- Where walking has come.
  pub record Going (first : ℕ) (table₀ : List ℕ) (at contents gaps : ℕ) (table : List ℕ) : Type 0 where
    pub forward : first ≤ at
    pub room : length table ≡ 64
    pub keeps : Keeps table₀ table
    pub goes : (r : Outer) (larger : List ℕ) → Keeps table larger → Adds contents gaps at r larger → Adds 0 0 first r larger
