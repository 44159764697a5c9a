-- A show is decided exactly. From exact tables the lowest root is the lowest that has a page which is not exactly the root element, and the
-- lowest element that the tests find is the lowest that is wrong in some page of the language, with the first breach in any page; and
-- every page of the language is right if and only if there is neither.
use Prim.Native.Nat.{ℕ, suc, ◌≤◌, ◌<◌}
use native.Mathlib.Omega.{arith}
use mathlib.Core.Path.{◌≡◌, refl, sym, subst, ◌∙◌}
use mathlib.Core.List.{List}
use mathlib.Core.Bool.{Bool, true, false, cond, false≢true}
use mathlib.Core.Option.{Option, some, none}
use mathlib.Core.Logic.{◌↔◌, inl, inr}
use lib.ListN.{length}
use Rattle.std.specs.Prelude.{None}
use Rattle.verdicts.specs.declared.Breach.{Breach}
use Rattle.vocabularies.specs.Vocabulary.{Vocabulary, Distinct, declared}
use Rattle.pages.specs.Items.{Attribute, Item, Items}
use Rattle.pages.specs.RightPages.{names, ElementWrong, FirstBreach, RootAlone, Right, SomeElement, SomeElementOf, WrongAt}
use Rattle.programs.specs.Program.{template_at}
use Rattle.summaries.specs.Summaries.{Summary}
use Rattle.summaries.specs.Languages.{AttributesDerive, Derives, ItemDerives, Language, DerivedFrom, nothing, item_then, text_stays, blank_stays, gap_filled, element_keeps}
use Rattle.agreement.proofs.Deciding.{Decided, holds, fails}
use Rattle.agreement.proofs.Roots.{decided_alone}
use Rattle.agreement.proofs.Breaches.{first_told, BreachFound, no_breach, breaks}
use Rattle.agreement.proofs.SomeElements.{Saying, some_into, some_sum}
use Rattle.agreement.proofs.Ruled.{Ruled}
use Rattle.agreement.proofs.Pages.{accepted_unless, accepts_right}
use Rattle.patterns.specs.Inner.Given.{Bounded, contents, SoundTemplates, SoundVocabulary}
use Rattle.patterns.specs.Inner.Reached.{Reached}
use Rattle.patterns.specs.Inner.Elements.{can_break}
use Rattle.patterns.specs.Inner.LowestWrong.{LowestWrong, lowest_in}
use Rattle.patterns.specs.Inner.Shows.{Least, Tables, ExactTables, not_root, lowest_root, tested, lowest_wrong}
use Rattle.patterns.proofs.Closed.{derived_no_gap, derived_closed}
use Rattle.patterns.proofs.NotRoot.{not_root_exact}
use Rattle.patterns.proofs.Standing.{Made, standing, reached_yields}
use Rattle.patterns.proofs.Reaching.{reached_there}
use Rattle.patterns.proofs.WrongElements.{CanBreak, breach_exact}
use Rattle.patterns.proofs.Lowest.{least_iff, none_of, least_none, least_test, least_over}
use Rattle.patterns.proofs.LowestOf.{Here, lowest_iff, lowest_none, lowest_over_lem, lowest_in_lem, lowest_nowhere, none_found}

-- An element of this mark that is wrong, by this breach.
abbrev pub WrongBy : Vocabulary → ℕ → Breach → Saying
WrongBy D at b e mark δ φ = (mark ≡ at) × ElementWrong D e δ φ b

-- Every element of a page of the language has a rule, where each in a template has.
pub language_ruled : (φs : List Items) (G : Summary) (ruled : ℕ → Bool) → ((n c : ℕ) → SomeElement (λ e mark δ φ. e ≡ c) (template_at φs n) → ruled c ≡ true)
    → (page : Items) → Language φs G page → Ruled ruled page
language_ruled φs G ruled have_rules page l c s =
    let (n, r, t) = (standing φs G (λ e mark δ φ. e ≡ c)).0 (page, l, s) in
    have_rules n c (some_into (Made φs G (λ e mark δ φ. e ≡ c) n) (λ e mark δ φ. e ≡ c) (λ e mark δ φ (δ', φ', a, d, q). q) (template_at φs n) t)

module _ (φs : List Items) (G : Summary) where
  -- An element of template n whose gaps can be filled, that has no attribute twice, and whose contents have names in range.
  pub record Fillable (n : ℕ) (δ : List Attribute) (φ : Items) : Type 0 where
    pub attributes : List Attribute
    pub inside : Items
    pub attributes_fill : AttributesDerive φs G n δ attributes
    pub inside_fills : Derives φs G n φ inside
    pub once : Distinct (names δ)
    pub small : (c : ℕ) → SomeElement (λ e mark ε χ. e ≡ c) φ → c < contents

  module _ (P Q : ℕ → Saying)
      (each : (n e mark : ℕ) (δ : List Attribute) (φ : Items) → Fillable n δ φ → P n e mark δ φ → Q n e mark δ φ) where
    mutual
      unfolding SomeElement

      pub some_map : {n : ℕ} {φ page : Items} → Derives φs G n φ page → ((c : ℕ) → SomeElement (λ e mark ε χ. e ≡ c) φ → c < contents)
          → ((δ : List Attribute) → SomeElement (λ e mark ε χ. ε ≡ δ) φ → Distinct (names δ)) → SomeElement (P n) φ → SomeElement (Q n) φ
      some_map nothing small once s = s
      some_map (item_then d ds p) small once (inl s) = inl (item_some_map d (λ c t. small c (inl t)) (λ δ t. once δ (inl t)) s)
      some_map (item_then d ds p) small once (inr s) = inr (some_map ds (λ c t. small c (inr t)) (λ δ t. once δ (inr t)) s)

      item_some_map : {n : ℕ} {i : Item} {u : Items} → ItemDerives φs G n i u
          → ((c : ℕ) → SomeElementOf (λ e mark ε χ. e ≡ c) i → c < contents) → ((δ : List Attribute) → SomeElementOf (λ e mark ε χ. ε ≡ δ) i → Distinct (names δ))
          → SomeElementOf (P n) i → SomeElementOf (Q n) i
      item_some_map text_stays small once s = s
      item_some_map blank_stays small once s = s
      item_some_map (gap_filled m e d) small once s = absurd s
      item_some_map (element_keeps {n = n} {e = e} {mark = mark} {δ = δ} {δ' = δ'} {φ = φ} {φ' = φ'} a d) small once (inl s) =
          inl (each n e mark δ φ (record {
            attributes = δ';
            inside = φ';
            attributes_fill = a;
            inside_fills = d;
            once = once δ (inl refl);
            small = λ c t. small c (inr t);
          }) s)
      item_some_map (element_keeps a d) small once (inr s) = inr (some_map d (λ c t. small c (inr t)) (λ δ t. once δ (inr t)) s)

module _ (φs : List Items) (G : Summary) (bounded : Bounded φs G) (D : Vocabulary) (templates : SoundTemplates (declared D.rules) φs) (sound : SoundVocabulary D)
    (T : Tables) (exact : ExactTables φs G D T) where
  -- The lowest root template of which some page is not exactly the root element.
  pub lowest_root_lem : Least (λ r. (page : Items) × DerivedFrom φs G r page × (RootAlone D page → ⊥)) (lowest_root φs G D T)
  unfolding lowest_root
  lowest_root_lem = least_iff (λ r. (to r, back r))
      (least_over (suc (length φs)) (λ i r. (i ≡ r) × (not_root G T.classes i ≡ true)) _ (λ i h. least_test (not_root G T.classes i) i))
    where
      decides : (r : ℕ) → not_root G T.classes r ≡ true ↔ ((page : Items) × DerivedFrom φs G r page × (RootAlone D page → ⊥))
      decides = not_root_exact φs G bounded D sound.root_element T.classes exact.classes

      to : (r : ℕ) → (i : ℕ) × (i < suc (length φs)) × ((i ≡ r) × (not_root G T.classes i ≡ true))
          → (page : Items) × DerivedFrom φs G r page × (RootAlone D page → ⊥)
      to r (i, h, (e, t)) = (decides r).0 (subst (λ (k : ℕ). not_root G T.classes k ≡ true) e t)

      back : (r : ℕ) → (page : Items) × DerivedFrom φs G r page × (RootAlone D page → ⊥)
          → (i : ℕ) × (i < suc (length φs)) × ((i ≡ r) × (not_root G T.classes i ≡ true))
      back r h = (r, (let le = bounded.roots r h.1.0 in omega arith), (refl, (decides r).1 h))

  element_decided : (n e : ℕ) (δ : List Attribute) (φ : Items) → Fillable φs G n δ φ
      → BreachFound (CanBreak φs G D n e δ φ) (can_break φs G T.clauses T.contents D n e δ φ)
  element_decided n e δ φ f =
      breach_exact φs G bounded templates.is_in_range T.clauses T.contents exact.contents n δ f.attributes φ f.inside
      f.attributes_fill f.inside_fills f.once f.small D e
      (λ r p ψ m. (sound.named_only e r ψ p m, exact.clauses e r ψ p m))

  -- An element of template n at an offset of which the tests tell this.
  pub record Tested (n at : ℕ) (b : Breach) : Type 0 where
    pub there : n ≤ length φs
    pub is_reached : T.reached n ≡ true
    pub element : SomeElement (λ e mark δ φ. (mark ≡ at) × (tested φs G D T n e mark δ φ ≡ some b)) (template_at φs n)

  -- Of an element that is tested, the first breach in any page is told.
  abbrev pub Telling : ℕ → ℕ → Breach → Saying
  Telling n at b e mark δ φ = (mark ≡ at) × FirstBreach (CanBreak φs G D n e δ φ) b

  told_if_lem : {W : Breach → Type 0} {b : Breach} → BreachFound W (some b) → FirstBreach W b
  told_if_lem (breaks f) = f

  pub tested_told : (n at : ℕ) (b : Breach) → Tested n at b → Reached φs G n × SomeElement (Telling n at b) (template_at φs n)
  tested_told n at b t =
      let r : Reached φs G n = (exact.reached n t.there).0 t.is_reached in
      let (page, d) = reached_yields φs G r in (
        r,
        some_map φs G (λ n e mark δ φ. (mark ≡ at) × (tested φs G D T n e mark δ φ ≡ some b)) (λ n. Telling n at b)
            (λ n e mark δ φ f (q, h). (q, told_if_lem (subst (BreachFound (CanBreak φs G D n e δ φ)) h (element_decided n e δ φ f))))
            d (templates.is_in_range n) (templates.once n) t.element,
      )

  -- An element that is wrong in some page is tested, by that breach or another.
  found_some : {W : Breach → Type 0} {o : Option Breach} (b : Breach) → W b → BreachFound W o → (c : Breach) × (o ≡ some c)
  found_some b w (no_breach n) = absurd (n b w)
  found_some b w (breaks {b = c} f) = (c, refl)

  pub wrong_tested : (page : Items) (at : ℕ) (b : Breach) → Language φs G page → WrongAt D at page b → (n : ℕ) × (c : Breach) × Tested n at c
  unfolding WrongAt
  wrong_tested page at b l w =
      let (n, r, s) = (standing φs G (WrongBy D at b)).0 (page, l, w) in
      let (other, d) = reached_yields φs G r in
      let (c, t) = some_sum (λ c e mark δ φ. (mark ≡ at) × (tested φs G D T n e mark δ φ ≡ some c)) (template_at φs n)
      (some_map φs G (Made φs G (WrongBy D at b)) (λ n e mark δ φ. (c : Breach) × ((mark ≡ at) × (tested φs G D T n e mark δ φ ≡ some c)))
      (λ n e mark δ φ f (δ', φ', a, d, (q, v)). let (c, h) = found_some b (δ', φ', a, d, v) (element_decided n e δ φ f) in (c, (q, h)))
      d (templates.is_in_range n) (templates.once n) s) in
      let h = reached_there φs G bounded r in
      (n, c, record { there = h; is_reached = (exact.reached n h).1 r; element = t })

  -- It can be made so.
  pub told_made : (n at : ℕ) (b : Breach) → Tested n at b → Reached φs G n × SomeElement (Made φs G (WrongBy D at b) n) (template_at φs n)
  told_made n at b t =
      let (r, s) = tested_told n at b t in (
        r,
        some_into (Telling n at b) (Made φs G (WrongBy D at b) n)
            (λ e mark δ φ (q, f). let (δ', φ', a, d, w) = first_told f in (δ', φ', a, d, (q, w))) (template_at φs n) s,
      )

  wrong_page : (n at : ℕ) (b : Breach) → Reached φs G n → SomeElement (Made φs G (WrongBy D at b) n) (template_at φs n)
      → (page : Items) × Language φs G page × WrongAt D at page b
  unfolding WrongAt
  wrong_page n at b r s = (standing φs G (WrongBy D at b)).1 (n, r, s)

  -- The lowest element that is tested.
  pub lowest_tested : LowestWrong Tested (lowest_wrong φs G D T)
  unfolding lowest_wrong
  lowest_tested = lowest_iff (λ n at b. (to n at b, λ t. (n, (let h = t.there in omega arith), (t.is_reached, (refl, t.element)))))
      (lowest_over_lem (suc (length φs)) (λ i n at b. (T.reached i ≡ true) × Here i (tested φs G D T i) (template_at φs i) n at b) _ (λ i h. in_template i (T.reached i) refl))
    where
      in_template : (i : ℕ) (b : Bool) → T.reached i ≡ b
          → LowestWrong (λ n at k. (T.reached i ≡ true) × Here i (tested φs G D T i) (template_at φs i) n at k) (cond b (lowest_in i (tested φs G D T i) (template_at φs i)) None)
      in_template i true e = lowest_iff (λ n at k. (λ h. (e, h), λ h. h.1)) (lowest_in_lem i (tested φs G D T i) (template_at φs i))
      in_template i false e = lowest_none (λ n at k h. false≢true (sym e ∙ h.0))

      to : (n at : ℕ) (b : Breach) → (i : ℕ) × (i < suc (length φs)) × ((T.reached i ≡ true) × Here i (tested φs G D T i) (template_at φs i) n at b) → Tested n at b
      to n at b (i, h, (r, (e, s))) = subst (λ (k : ℕ). Tested k at b) (sym e) (record { there = omega arith; is_reached = r; element = s })

  -- Every page of the language is right if and only if no root gives 11 and no element is wrong.
  pub all_right : ((page : Items) → Language φs G page → Right D page) ↔ ((lowest_root φs G D T ≡ none) × (lowest_wrong φs G D T ≡ None))
  all_right = (to, back)
    where
      to : ((page : Items) → Language φs G page → Right D page) → (lowest_root φs G D T ≡ none) × (lowest_wrong φs G D T ≡ None)
      to right = (
        least_none lowest_root_lem (λ r (page, d, n). n (right page (r, d)).alone),
        lowest_nowhere lowest_tested (λ n at b t.
            let (r, s) = told_made n at b t in
            let (page, l, w) = wrong_page n at b r s in
            accepts_right D page at b (right page l).accepted w),
      )

      alone_or : (page : Items) {b : Bool} → Decided (RootAlone D page) b → ((RootAlone D page → ⊥) → ⊥) → RootAlone D page
      alone_or page (holds a) k = a
      alone_or page (fails n) k = absurd (k n)

      back : (lowest_root φs G D T ≡ none) × (lowest_wrong φs G D T ≡ None) → (page : Items) → Language φs G page → Right D page
      back (no_root, no-mark) page (r, (g, d)) = record {
        alone = alone_or page (decided_alone D page) (λ n. none_of (subst (Least _) no_root lowest_root_lem) r (page, (g, d), n));
        accepted = accepted_unless D page (derived_no_gap φs G d) (language_ruled φs G (declared D.rules) templates.have_rules page (r, (g, d)))
            (λ at b w. let (n, c, t) = wrong_tested page at b (r, (g, d)) w in none_found (subst (LowestWrong _) no-mark lowest_tested) n at c t);
        gapless = derived_closed φs G d;
      }
