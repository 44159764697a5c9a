-- Items and lists of items: what the judgement of the parts says of the whole.
use Rattle.std.specs.Prelude as Values
use Rattle.std.specs.Prelude.{Some, None}
use Prim.Native.Nat.{ℕ, ◌+◌, ◌≤◌, ◌<◌}
use mathlib.Core.Path.{◌≡◌, refl, sym, ap, subst, ◌∙◌}
use mathlib.Core.List.{List, [], ◌∷◌, ◌++◌, append_assoc, append-nil}
use mathlib.Core.Bool.{Bool}
use native.Mathlib.Omega.{arith}
use lib.ListN.{length, get_or}
use Rattle.verdicts.specs.declared.Breach.{Breach}
use Rattle.commands.specs.declared.Position.{Position}
use Rattle.commands.specs.Reading.{whole}
use Rattle.vocabularies.specs.declared.Rule.{Rule}
use Rattle.vocabularies.specs.Vocabulary.{Vocabulary, rule_of, declared}
use Rattle.vocabularies.specs.Inner.Promises.{no_rule}
use Rattle.vocabularies.proofs.Laws.{rule_found}
use Rattle.pages.specs.declared.Kind.TheVariants.{Page}
use Rattle.pages.specs.declared.ItemHere.{ItemHere}
use Rattle.pages.specs.declared.ItemHere.TheVariants.{Text, Gap, Element, Blank, End}
use Rattle.pages.specs.Items.{Item, text, blank, Items, more}
use Rattle.pages.specs.ItemReading.{items}
use Rattle.pages.specs.RightPages.{word, word_item}
use Rattle.pages.specs.Inner.Steps.{item_here}
use Rattle.pages.proofs.Steps.{no_attribute, text_first, blank_first, gap_first, element_first, end_first, text_item, blank_item, gap_item, element_item, no_item}
use Rattle.judging.specs.declared.Known.{Known}
use Rattle.judging.specs.declared.Standing.{Standing}
use Rattle.judging.specs.declared.Contents.{Contents}
use Rattle.judging.specs.declared.Judged.{Judged}
use Rattle.judging.specs.declared.Listed.{Listed}
use Rattle.judging.specs.declared.Named.{Named}
use Rattle.judging.specs.Inner.Judgement.{FirstWrong, breach_under, or_else, of_element, first_wrong, first_wrong_item}
use Rattle.judging.specs.Inner.Promises.{broken_by, step_next, Counted, Containing, Remembered, Names, TellsOutcome, Tabled, ItemJudged, JudgesItem, ItemsJudged, JudgesItems}
use Rattle.judging.proofs.AttributeLaws.{no_template}

pub or_none : (w : FirstWrong) → or_else w None ≡ w
or_none None = refl
or_none (Some w) = refl

or_or : (a b c : FirstWrong) → or_else (or_else a b) c ≡ or_else a (or_else b c)
or_or None b c = refl
or_or (Some w) b c = refl

module _ (D : Vocabulary) (p : List ℕ) where
  abbrev ruled : ℕ → Bool
  ruled = declared D.rules

  -- ---- an item

  module _ (at : ℕ) (h : ItemHere) (is : h ≡ item_here p at) where
    -- What is no element is text or blank text.
    pub leaf_judged : ((e : ℕ) (next : Position) → h ≡ Element e next → ⊥) → JudgesItem D p at (record { next = step_next h; wrong = None })
    unfolding first_wrong_item
    leaf_judged other f depth end i reads = elim h as (λ x. h ≡ x → ItemJudged D i end (record { next = step_next x; wrong = None })) [
      | Text next ↦ λ q. let t = text_item f Page ruled p depth at i end reads h is next q in rw t.0 (record { ends = t.1; finds = refl })
      | Gap g next ↦ λ q. no_template (gap_item f Page ruled p depth at i end reads h is g next q).in_template
      | Element e next ↦ λ q. absurd (other e next q)
      | Blank next ↦ λ q. let t = blank_item f Page ruled p depth at i end reads h is next q in rw t.0 (record { ends = t.1; finds = refl })
      | End next ↦ λ q. no_item f Page ruled p depth at i end reads h is next q
    ] refl

    -- An element: itself, by the tests of its rule, before those inside it.
    module _ (v : List ℕ) (rules : List Rule) (T : Tabled v D rules) (e : ℕ) (start : Position) (opens : h ≡ Element e start)
        (named : Named) (strings : List ℕ) (N : Names p start.at named strings)
        (list : Listed) (order : List Standing) (L : JudgesItems D p named.next.at list order)
        (outcome : Values.Option Breach) (R : TellsOutcome v (get_or rules e no_rule) (record { names = named.names; contents = list.contents }) strings order outcome) where
      pub element_judged : JudgesItem D p at (record { next = list.next; wrong = of_element (broken_by outcome) at list.wrong })
      unfolding first_wrong_item
      element_judged f depth end i reads =
          let P = element_item f Page ruled p depth at i end reads h is e start opens in
          let done = no_attribute P.fuel Page ruled p (depth + 1) P.inside P.contents end P.reads_contents in
          let n = N P.fuel P.inside P.named P.reads_attributes done in
          let l = L P.fuel (depth + 1) end P.contents (subst (λ (m : ℕ). items P.fuel Page ruled p (depth + 1) m ≡ whole P.contents end) (sym n.0) P.reads_contents) in
          let rule = rule_found (rule_of D.rules e) P.has_rule in
          let r : broken_by outcome ≡ breach_under rule.0 P.named (word P.contents) = R rule.0 P.named (word P.contents) l.count (T e rule.0 rule.1) n.1 l.contains in
          rw P.is_it (record {
            ends = l.ends;
            finds = rw (rule.1, ← r, l.finds);
          })

  -- ---- a list of items

  module _ (depth : ℕ) (φ : Items) (end : ℕ) where
    -- What is left of a list behind the items of the word `before`.
    record Left (before : List ℕ) (wrong : FirstWrong) (at : ℕ) : Type 0 where
      fuel : ℕ
      left : Items
      reads : items fuel Page ruled p depth at ≡ whole left end
      is : word φ ≡ before ++ word left
      finds : first_wrong D φ ≡ or_else wrong (first_wrong D left)

    -- Where judging has come, of a list that reads.
    pub record Judging (order : List Standing) (at : ℕ) (inside : Contents) (wrong : FirstWrong) : Type 0 where
      before : List ℕ
      contains : Containing before inside.set order inside.count
      left : Left before wrong at

    pub all_left : (f at : ℕ) (order : List Standing) → items f Page ruled p depth at ≡ whole φ end → Containing [] 0 order 0 → Judging order at (record { set = 0; count = 0 }) None
    all_left f at order e C = record { before = []; contains = C; left = record { fuel = f; left = φ; reads = e; is = refl; finds = refl } }

    module _ (order : List Standing) (at : ℕ) (inside : Contents) (wrong : FirstWrong) (J : Judging order at inside wrong) (h : ItemHere) (is : h ≡ item_here p at) where
      pub list_ends : (next : Position) → h ≡ End next → ItemsJudged D φ end (record { contents = inside.set; next = next; wrong = wrong }) order
      unfolding word first_wrong
      list_ends next e =
          let L = J.left in
          let E = end_first L.fuel Page ruled p depth at L.left end L.reads h is next e in
          let w : word φ ≡ J.before = L.is ∙ rw E.no_more (append-nil J.before) in
          record {
            count = inside.count;
            contains = rw w J.contains;
            ends = E.after;
            finds = sym (L.finds ∙ rw E.no_more (or_none wrong));
          }

      -- An item more, with its contents: one, or none.
      module _ (cs : List ℕ) (r : Contents) (last : List Standing) (next : ℕ)
          (add : (w : List ℕ) → Containing w inside.set order inside.count → Containing (w ++ cs) r.set last r.count) where
        item_left : (fuel : ℕ) (i : Item) (rest : Items) → J.left.left ≡ more i rest → ((w : List ℕ) → word_item i w ≡ cs ++ w)
            → items fuel Page ruled p depth next ≡ whole rest end → (w : FirstWrong) → or_else wrong (first_wrong_item D i) ≡ w → Judging last next r w
        unfolding word first_wrong
        item_left fuel i rest is_more is_cs reads w found = record {
          before = J.before ++ cs;
          contains = add J.before J.contains;
          left = record {
            fuel = fuel;
            left = rest;
            reads = reads;
            is = J.left.is ∙ ap (λ (x : Items). J.before ++ word x) is_more ∙ ap (λ (x : List ℕ). J.before ++ x) (is_cs (word rest))
                ∙ sym (append_assoc J.before cs (word rest));
            finds = J.left.finds ∙ ap (λ (x : Items). or_else wrong (first_wrong D x)) is_more
                ∙ sym (or_or wrong (first_wrong_item D i) (first_wrong D rest)) ∙ ap (λ (o : FirstWrong). or_else o (first_wrong D rest)) found;
          };
        }

      pub text_more : (next : Position) → h ≡ Text next → (r : Contents) (last : List Standing)
          → ((w : List ℕ) → Containing w inside.set order inside.count → Containing (w ++ (0 ∷ [])) r.set last r.count) → Judging last next.at r wrong
      unfolding word_item first_wrong_item
      text_more next e r last one =
          let L = J.left in
          let F = text_first L.fuel Page ruled p depth at L.left end L.reads h is next e in
          item_left (0 ∷ []) r last next.at one F.fuel text F.rest F.is_more (λ w. refl) F.reads_rest wrong (or_none wrong)

      blank_more : (next : Position) → h ≡ Blank next → Judging order next.at inside wrong
      unfolding word_item first_wrong_item
      blank_more next e =
          let L = J.left in
          let F = blank_first L.fuel Page ruled p depth at L.left end L.reads h is next e in
          item_left [] inside order next.at (λ w C. rw (append-nil w) C) F.fuel blank F.rest F.is_more (λ w. refl) F.reads_rest wrong (or_none wrong)

      pub gap_more : {A : Type 0} (g : ℕ) (next : Position) → h ≡ Gap g next → A
      gap_more g next e =
          let L = J.left in
          no_template (gap_first L.fuel Page ruled p depth at L.left end L.reads h is g next e).in_template

      pub element_more : (x : ℕ) (start : Position) → h ≡ Element x start → (i : Judged) → JudgesItem D p at i → (r : Contents) (last : List Standing)
          → ((w : List ℕ) → Containing w inside.set order inside.count → Containing (w ++ (x ∷ [])) r.set last r.count)
          → Judging last i.next.at r (or_else wrong i.wrong)
      unfolding word_item
      element_more x start e i judges r last one =
          let L = J.left in
          let F = element_first L.fuel Page ruled p depth at L.left end L.reads h is x start e in
          let j = judges F.fuel depth F.middle _ F.reads_first in
          item_left (x ∷ []) r last i.next.at one F.fuel _ F.rest F.is_more (λ w. refl) (rw j.ends F.reads_rest) (or_else wrong i.wrong)
          (rw (← j.finds))

-- The state of the walk over a list.
pub record Going (v : List ℕ) (rules : List Rule) (p : List ℕ) (at₀ : ℕ) (order : List Standing) (shapes : List Known) (at : ℕ) (inside : Contents) (wrong : FirstWrong) : Type 0 where
  pub forward : at₀ ≤ at
  pub room : length order ≡ 64
  pub counted : Counted inside
  pub remembered : Remembered v shapes
  pub judging : (D : Vocabulary) → Tabled v D rules → (f depth : ℕ) (φ : Items) (end : ℕ) → items f Page (declared D.rules) p depth at₀ ≡ whole φ end
      → Judging D p depth φ end order at inside wrong

-- Over blank text nothing else changes.
pub going_blank : (v : List ℕ) (rules : List Rule) (p : List ℕ) (at₀ : ℕ) (order : List Standing) (shapes : List Known) (at : ℕ) (inside : Contents) (wrong : FirstWrong)
    → Going v rules p at₀ order shapes at inside wrong → (h : ItemHere) → h ≡ item_here p at → (next : Position) → h ≡ Blank next → at < next.at
    → Going v rules p at₀ order shapes next.at inside wrong
going_blank v rules p at₀ order shapes at inside wrong g h is next e on = record {
  forward = omega (arith, g.forward);
  room = g.room;
  counted = g.counted;
  remembered = g.remembered;
  judging = λ D T f depth φ end reads. blank_more D p depth φ end order at inside wrong (g.judging D T f depth φ end reads) h is next e;
}
