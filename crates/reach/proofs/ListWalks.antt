-- A list of items of a template, one after the other, and an element with what was told of its contents.
use Prim.Native.Nat.{ℕ, ◌+◌, ◌≤◌, ◌<◌}
use mathlib.Core.Path.{◌≡◌, refl, sym, ap, ap₂, subst, ◌∙◌}
use mathlib.Core.List.{List, []}
use mathlib.Core.Bool.{Bool, true, ◌||◌}
use lib.ListN.{length, get_or}
use lib.Dec.{eqb}
use Rattle.std.specs.Prelude.{None}
use Rattle.sets.specs.Sets.{member}
use Rattle.commands.specs.declared.Position.{Position}
use Rattle.commands.specs.Reading.{whole}
use Rattle.vocabularies.specs.declared.Rule as Tabled
use Rattle.vocabularies.specs.Vocabulary.{Vocabulary, rule_of, declared}
use Rattle.vocabularies.specs.Inner.Promises.{no_rule}
use Rattle.vocabularies.proofs.Laws.{rule_found}
use Rattle.pages.specs.declared.Kind.TheVariants.{Template}
use Rattle.pages.specs.declared.ItemHere.{ItemHere}
use Rattle.pages.specs.declared.ItemHere.TheVariants.{Text, Gap, Element, Blank, End}
use Rattle.pages.specs.Items.{Item, Items, more}
use Rattle.pages.specs.Items as Items
use Rattle.pages.specs.ItemReading.{items}
use Rattle.pages.specs.Inner.Steps.{item_here}
use Rattle.pages.proofs.Steps.{LeafFirst, text_first, blank_first, gap_first, element_first, end_first, element_item, no_attribute}
use Rattle.summaries.specs.Summaries.{Summary}
use Rattle.patterns.specs.Inner.Rounds.{Sets}
use Rattle.patterns.specs.Inner.Elements.{plain_breach}
use Rattle.patterns.specs.Inner.LowestWrong.{MaybeWrong, lower_wrong, wrong_at, Test, lowest_in, lowest_of}
use Rattle.patterns.proofs.LowestOf.{lower_nowhere, lower_assoc}
use Rattle.reach.specs.declared.Carriable.{Carriable}
use Rattle.reach.specs.declared.WalkedElement.{WalkedElement}
use Rattle.reach.specs.declared.WalkedItems.{WalkedItems}
use Rattle.reach.specs.Inner.Closures.{United}
use Rattle.reach.specs.Inner.PlainlyWrong.{plainly_wrong}
use Rattle.reach.specs.Inner.Walking.{RulesKept, TellsCarriable, GraphTold, TellsOutside, WalksElement, WalksItems}
use Rattle.reach.proofs.Outlining.{Outlined, outlined_none, outlined_all, outlined_text, outlined_blank, outlined_gap, outlined_element, contents_by}

module _ (s : List ℕ) (rules_in : List Tabled.Rule) (graph brings : List ℕ) (n : ℕ) where
  -- ---- items

  -- What the items from an offset on add to what was walked over before.
  pub record Added (ruled : ℕ → Bool) (inside gaps : ℕ) (wrong : MaybeWrong) (φ : Items) (end : ℕ) (r : WalkedItems) : Type 0 where
    pub ends : r.next.at ≡ end
    pub outlined : Outlined inside gaps φ r.inside r.gaps
    pub lowers : (φs : List Items) (G : Summary) (C : Sets) (D : Vocabulary) → RulesKept D rules_in → GraphTold φs G C n graph brings
        → ((e : ℕ) → ruled e ≡ true → declared D.rules e ≡ true)
        → r.wrong ≡ lower_wrong wrong (lowest_in n (λ e mark δ χ. plainly_wrong φs G C D n e δ χ) φ)

  abbrev pub Adds : ℕ → ℕ → MaybeWrong → ℕ → WalkedItems → Type 0
  Adds inside gaps wrong at r = (ruled : ℕ → Bool) (f depth end : ℕ) (φ : Items) → items f Template ruled s depth at ≡ whole φ end
      → Added ruled inside gaps wrong φ end r

  pub adds_all : (at : ℕ) (r : WalkedItems) → Adds 0 0 None at r → WalksItems s rules_in graph brings n at r
  adds_all at r A ruled f depth end φ e =
      let a = A ruled f depth end φ e in
      record { ends = a.ends; outline = outlined_all φ r.inside r.gaps a.outlined; finds = a.lowers }

  module _ (inside gaps : ℕ) (wrong : MaybeWrong) (at : ℕ) (h : ItemHere) (is : h ≡ item_here s at) where
    pub list_ends : (next : Position) → h ≡ End next → Adds inside gaps wrong at (record { inside = inside; gaps = gaps; next = next; wrong = wrong })
    unfolding lowest_in
    list_ends next q ruled f depth end φ e =
        let F = end_first f Template ruled s depth at φ end e h is next q in
        rw F.no_more (record {
          ends = F.after;
          outlined = outlined_none inside gaps;
          lowers = λ φs G C D rules graph_told ruled_are. sym (lower_nowhere wrong);
        })

    -- An item that is no element, by what it adds to the outline.
    list_leaf : (i : Item) → ((test : Test) → lowest_of n test i ≡ None) → (next : Position) (inside' gaps' : ℕ)
        → ((φ : Items) (inside'' gaps'' : ℕ) → Outlined inside' gaps' φ inside'' gaps'' → Outlined inside gaps (more i φ) inside'' gaps'')
        → ((ruled : ℕ → Bool) (f depth end : ℕ) (φ : Items) → items f Template ruled s depth at ≡ whole φ end → LeafFirst Template ruled s depth at i next φ end)
        → (r : WalkedItems) → Adds inside' gaps' wrong next.at r → Adds inside gaps wrong at r
    unfolding lowest_in
    list_leaf i none_in next inside' gaps' outline first r A ruled f depth end φ e =
        let F = first ruled f depth end φ e in
        let a = A ruled F.fuel depth end F.rest F.reads_rest in
        rw F.is_more (record {
          ends = a.ends;
          outlined = outline F.rest r.inside r.gaps a.outlined;
          lowers = λ φs G C D rules graph_told ruled_are. rw (none_in (λ e mark δ χ. plainly_wrong φs G C D n e δ χ)) (a.lowers φs G C D rules graph_told ruled_are);
        })

    pub list_text : (next : Position) → h ≡ Text next → (inside' : ℕ) → ((k : ℕ) → member inside' k ≡ (eqb k 0 || member inside k))
        → (r : WalkedItems) → Adds inside' gaps wrong next.at r → Adds inside gaps wrong at r
    unfolding lowest_in
    list_text next q inside' is_inside = list_leaf Items.text (λ test. refl) next inside' gaps (λ φ x y. outlined_text inside gaps φ x y inside' is_inside)
        λ ruled f depth end φ e. text_first f Template ruled s depth at φ end e h is next q

    pub list_blank : (next : Position) → h ≡ Blank next → (r : WalkedItems) → Adds inside gaps wrong next.at r → Adds inside gaps wrong at r
    unfolding lowest_in
    list_blank next q = list_leaf Items.blank (λ test. refl) next inside gaps (outlined_blank inside gaps)
        λ ruled f depth end φ e. blank_first f Template ruled s depth at φ end e h is next q

    pub list_gap : (g : ℕ) → g < 8 → (next : Position) → h ≡ Gap g next → (gaps' : ℕ) → ((k : ℕ) → member gaps' k ≡ (eqb k g || member gaps k))
        → (r : WalkedItems) → Adds inside gaps' wrong next.at r → Adds inside gaps wrong at r
    unfolding lowest_in
    list_gap g small next q gaps' is_gaps = list_leaf (Items.gap g) (λ test. refl) next inside gaps' (λ φ x y. outlined_gap inside gaps φ x y g gaps' small is_gaps)
        λ ruled f depth end φ e. (gap_first f Template ruled s depth at φ end e h is g next q).leaf

    -- An element: itself, by the two tests, and those inside it.
    pub list_element : (e : ℕ) (start : Position) → h ≡ Element e start → (inside' : ℕ) → ((k : ℕ) → member inside' k ≡ (eqb k e || member inside k))
        → (walked : WalkedElement) → WalksElement s rules_in graph brings n start.at walked
        → (own : MaybeWrong) → TellsOutside n at walked.names (get_or rules_in e no_rule).attributes walked.gets (get_or rules_in e no_rule).contents own
        → (lowest : MaybeWrong) → lowest ≡ lower_wrong own walked.wrong → (wrong' : MaybeWrong) → wrong' ≡ lower_wrong wrong lowest
        → (r : WalkedItems) → Adds inside' gaps wrong' walked.next.at r → Adds inside gaps wrong at r
    unfolding lowest_in
    list_element e start q inside' is_inside walked W own O lowest is_lowest wrong' is_wrong r A ruled f depth end φ reads =
        let F = element_first f Template ruled s depth at φ end reads h is e start q in
        let δ = F.named in
        let χ = F.contents in
        let i = Items.element e at δ χ in
        let I = element_item F.fuel Template ruled s depth at i F.middle F.reads_first h is e start q in
        let named : I.named ≡ δ = cc I.is_it in
        let contained : I.contents ≡ χ = cc I.is_it in
        let done = no_attribute I.fuel Template ruled s (depth + 1) I.inside I.contents F.middle I.reads_contents in
        let w = W ruled I.fuel (depth + 1) I.inside F.middle δ χ (rw named at I.reads_attributes) done (rw contained at I.reads_contents) in
        let a = A ruled F.fuel depth end F.rest (subst (λ (k : ℕ). items F.fuel Template ruled s depth k ≡ whole F.rest end) (sym w.ends) F.reads_rest) in
        rw F.is_more (record {
          ends = a.ends;
          outlined = outlined_element inside gaps F.rest r.inside r.gaps e at δ χ inside' is_inside a.outlined;
          lowers = λ φs G C D rules graph_told ruled_are.
              let test : Test = λ e mark δ χ. plainly_wrong φs G C D n e δ χ in
              let (R, is_rule) = rule_found (rule_of D.rules e) (ruled_are e I.has_rule) in
              let told : own ≡ wrong_at n at (plain_breach φs G C R n δ χ) = O φs G C R δ χ (record {
                has_names = w.carries G graph_told.keeps;
                allows = rules.allows e R is_rule;
                has_contents = w.contains φs G C graph_told;
                holds = rules.holds e R is_rule;
              }) in
              let itself : own ≡ wrong_at n at (plainly_wrong φs G C D n e δ χ) = rw is_rule told in
              let first : lowest ≡ lower_wrong (wrong_at n at (plainly_wrong φs G C D n e δ χ)) (lowest_in n test χ) = is_lowest ∙ ap₂ lower_wrong itself (w.finds φs G C D rules graph_told ruled_are) in
              a.lowers φs G C D rules graph_told ruled_are ∙ ap (λ (v : MaybeWrong). lower_wrong v (lowest_in n test F.rest)) is_wrong
              ∙ lower_assoc wrong lowest (lowest_in n test F.rest)
              ∙ ap (λ (v : MaybeWrong). lower_wrong wrong (lower_wrong v (lowest_in n test F.rest))) first;
        })

  -- Where walking has come: what the items from here on add is what all of them add to nothing.
  pub record Going (first at inside gaps : ℕ) (wrong : MaybeWrong) : Type 0 where
    pub forward : first ≤ at
    pub goes : (r : WalkedItems) → Adds inside gaps wrong at r → Adds 0 0 None first r

  -- ---- an element

  pub element_walked : (start : Position) (named : Carriable) → TellsCarriable s start.at graph n named
      → (list : WalkedItems) → WalksItems s rules_in graph brings n named.next.at list
      → (inside : ℕ) → length brings ≡ 8 → United list.inside list.gaps brings inside
      → WalksElement s rules_in graph brings n start.at (record { names = named.names; gets = inside; next = list.next; wrong = list.wrong })
  element_walked start named N list L inside long U ruled f depth middle end δ φ reads done reads_contents =
      let m = N [] f middle δ reads done in
      let l = L ruled f depth end φ (subst (λ (k : ℕ). items f Template ruled s depth k ≡ whole φ end) (sym m.0) reads_contents) in
      record {
        ends = l.ends;
        carries = m.1;
        contains = λ φs G C graph_told c low. contents_by φs G C n c brings long graph_told.brought low φ list.inside list.gaps inside l.outline U;
        finds = l.finds;
      }
