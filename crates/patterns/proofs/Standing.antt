-- Where an element of a page comes from, and which elements stand in some whole page: an element as P says stands in a page of the
-- language if and only if some template that is reached has an element that can be made so. Attributes and contents of an element
-- are free choices, since what stands beside it is derived by itself.
use Prim.Native.Nat.{ℕ}
use mathlib.Core.Path.{◌≡◌, refl, sym, subst}
use mathlib.Core.List.{List}
use mathlib.Core.Bool.{true, false≢true}
use mathlib.Core.Logic.{◌↔◌, ◌⊎◌, inl, inr, ⊎_elim}
use borrow.Author.Tests.{eqb-true}
use Rattle.pages.specs.Items.{Item, text, blank, gap, element, Items, none, more, one, ◌⋈◌, gap_in, gap_in_item}
use Rattle.pages.specs.RightPages.{SomeElement, SomeElementOf}
use Rattle.programs.specs.Program.{template_at}
use Rattle.summaries.specs.Proposal.{edge}
use Rattle.summaries.specs.Summaries.{Summary}
use Rattle.summaries.specs.Languages.{Derives, ItemDerives, Language, nothing, item_then, text_stays, blank_stays, gap_filled, element_keeps}
use Rattle.agreement.proofs.SomeElements.{Saying}
use Rattle.patterns.specs.Inner.Reached.{Yields, Reached, from_root, through_gap, CanBe}
use Rattle.patterns.proofs.Tests.{eqb_same}
use Rattle.sets.proofs.Booleans.{or_left, or_right, or_cases}

some_left : (P : Saying) (u v : Items) → SomeElement P u → SomeElement P (u ⋈ v)
unfolding SomeElement ◌⋈◌
some_left P none v s = absurd s
some_left P (more i u) v (inl s) = inl s
some_left P (more i u) v (inr s) = inr (some_left P u v s)

some_right : (P : Saying) (u v : Items) → SomeElement P v → SomeElement P (u ⋈ v)
unfolding SomeElement ◌⋈◌
some_right P none v s = s
some_right P (more i u) v s = inr (some_right P u v s)

some_cases : (P : Saying) (u v : Items) → SomeElement P (u ⋈ v) → SomeElement P u ⊎ SomeElement P v
unfolding SomeElement ◌⋈◌
some_cases P none v s = inr s
some_cases P (more i u) v (inl s) = inl (inl s)
some_cases P (more i u) v (inr s) = ⊎_elim (λ t. inl (inr t)) (λ t. inr t) (some_cases P u v s)

-- An element of which one of two things is said.
module _ (P Q : Saying) where
  mutual
    unfolding SomeElement

    pub some_either : (φ : Items) → SomeElement (λ e mark δ χ. P e mark δ χ ⊎ Q e mark δ χ) φ → SomeElement P φ ⊎ SomeElement Q φ
    some_either none s = absurd s
    some_either (more i φ) (inl s) = ⊎_elim (λ t. inl (inl t)) (λ t. inr (inl t)) (item_some_either i s)
    some_either (more i φ) (inr s) = ⊎_elim (λ t. inl (inr t)) (λ t. inr (inr t)) (some_either φ s)

    item_some_either : (i : Item) → SomeElementOf (λ e mark δ χ. P e mark δ χ ⊎ Q e mark δ χ) i → SomeElementOf P i ⊎ SomeElementOf Q i
    item_some_either text s = absurd s
    item_some_either blank s = absurd s
    item_some_either (gap g) s = absurd s
    item_some_either (element e mark δ φ) (inl (inl p)) = inl (inl p)
    item_some_either (element e mark δ φ) (inl (inr q)) = inr (inl q)
    item_some_either (element e mark δ φ) (inr s) = ⊎_elim (λ t. inl (inr t)) (λ t. inr (inr t)) (some_either φ s)

module _ (φs : List Items) (G : Summary) where
  pub reached_yields : {n : ℕ} → Reached φs G n → Yields φs G n
  reached_yields (from_root g y) = y
  reached_yields (through_gap r h e y) = y

module _ (φs : List Items) (G : Summary) (P : Saying) where
  -- An element of template n can be made as P says.
  abbrev pub Made : ℕ → Saying
  Made n e mark δ φ = CanBe φs G n δ φ (P e mark)

  -- Some template that is reached has such an element.
  abbrev pub SomeReached : Type 0
  SomeReached = (n : ℕ) × Reached φs G n × SomeElement (Made n) (template_at φs n)

  abbrev pub SomePage : Type 0
  SomePage = (page : Items) × Language φs G page × SomeElement P page

  mutual
    unfolding SomeElement gap_in

    comes : {n : ℕ} {φ page : Items} → Derives φs G n φ page → Reached φs G n
        → ((g : ℕ) → gap_in φ g ≡ true → gap_in (template_at φs n) g ≡ true)
        → SomeElement P page → SomeElement (Made n) φ ⊎ SomeReached
    comes nothing r part s = absurd s
    comes (item_then {i = i} {φ = φ} {u = u} {v = v} d ds e) r part s = ⊎_elim
        (λ t. ⊎_elim (λ a. inl (inl a)) (λ a. inr a) (item_comes d r (λ g h. part g (or_left (gap_in_item i g) (gap_in φ g) h)) t))
        (λ t. ⊎_elim (λ a. inl (inr a)) (λ a. inr a) (comes ds r (λ g h. part g (or_right (gap_in_item i g) (gap_in φ g) h)) t))
        (some_cases P u v (subst (SomeElement P) e s))

    item_comes : {n : ℕ} {i : Item} {u : Items} → ItemDerives φs G n i u → Reached φs G n
        → ((g : ℕ) → gap_in_item i g ≡ true → gap_in (template_at φs n) g ≡ true)
        → SomeElement P u → SomeElementOf (Made n) i ⊎ SomeReached
    item_comes text_stays r part s = absurd (⊎_elim (λ t. t) (λ t. t) s)
    item_comes blank_stays r part s = absurd (⊎_elim (λ t. t) (λ t. t) s)
    item_comes (gap_filled {n = n} {g = g} {φ' = φ'} m e d) r part s =
        let r' : Reached φs G m = through_gap r (part g (eqb_same g)) e (φ', d) in
        inr (⊎_elim (λ a. (m, r', a)) (λ a. a) (comes d r' (λ k h. h) s))
    item_comes (element_keeps {δ' = δ'} {φ' = φ'} a d) r part (inl (inl p)) = inl (inl (δ', φ', a, d, p))
    item_comes (element_keeps a d) r part (inl (inr s)) = ⊎_elim (λ t. inl (inr t)) (λ t. inr t) (comes d r part s)
    item_comes (element_keeps a d) r part (inr s) = absurd s

  -- Every element of a page comes of one in a template that is reached.
  pub comes_of : SomePage → SomeReached
  comes_of (page, (r, (g, d)), s) =
      let r' : Reached φs G r = from_root g (page, d) in
      ⊎_elim (λ a. (r, r', a)) (λ a. a) (comes d r' (λ k h. h) s)

  -- Items that yield a page yield one in which an element is made as P says.
  mutual
    unfolding SomeElement

    pub made_in : {n : ℕ} {φ page : Items} → Derives φs G n φ page → SomeElement (Made n) φ → (page' : Items) × Derives φs G n φ page' × SomeElement P page'
    made_in nothing s = absurd s
    made_in (item_then {v = v} d ds e) (inl s) =
        let (u', d', t) = item_made_in d s in (u' ⋈ v, item_then d' ds refl, some_left P u' v t)
    made_in (item_then {u = u} d ds e) (inr s) =
        let (v', ds', t) = made_in ds s in (u ⋈ v', item_then d ds' refl, some_right P u v' t)

    item_made_in : {n : ℕ} {i : Item} {u : Items} → ItemDerives φs G n i u → SomeElementOf (Made n) i
        → (u' : Items) × ItemDerives φs G n i u' × SomeElement P u'
    item_made_in text_stays s = absurd s
    item_made_in blank_stays s = absurd s
    item_made_in (gap_filled m e d) s = absurd s
    item_made_in (element_keeps {e = e} {mark = mark} a d) (inl (δ'', φ'', a'', d'', p)) =
        (one (element e mark δ'' φ''), element_keeps a'' d'', inl (inl p))
    item_made_in (element_keeps {e = e} {mark = mark} {δ' = δ'} a d) (inr s) =
        let (φ'', d'', t) = made_in d s in (one (element e mark δ' φ''), element_keeps a d'', inl (inr t))

  -- Items that yield a page, and have a gap with an edge to a template, yield one in which the gap takes a page of that template.
  module _ (m : ℕ) (plugged : Items) (comes_of_m : Derives φs G m (template_at φs m) plugged) (some : SomeElement P plugged) where
    mutual
      unfolding SomeElement gap_in

      plugged_in : {n : ℕ} {φ page : Items} → Derives φs G n φ page → (g : ℕ) → gap_in φ g ≡ true → G (edge n g m) ≡ true
          → (page' : Items) × Derives φs G n φ page' × SomeElement P page'
      plugged_in nothing g h e = absurd (false≢true h)
      plugged_in (item_then {i = i} {φ = φ} {u = u} {v = v} d ds p) g h e = ⊎_elim
          (λ k. let (u', d', t) = item_plugged_in d g k e in (u' ⋈ v, item_then d' ds refl, some_left P u' v t))
          (λ k. let (v', ds', t) = plugged_in ds g k e in (u ⋈ v', item_then d ds' refl, some_right P u v' t))
          (or_cases (gap_in_item i g) (gap_in φ g) h)

      item_plugged_in : {n : ℕ} {i : Item} {u : Items} → ItemDerives φs G n i u → (g : ℕ) → gap_in_item i g ≡ true → G (edge n g m) ≡ true
          → (u' : Items) × ItemDerives φs G n i u' × SomeElement P u'
      item_plugged_in text_stays g h e = absurd (false≢true h)
      item_plugged_in blank_stays g h e = absurd (false≢true h)
      item_plugged_in (gap_filled {n = n} {g = k} m' e' d) g h e =
          (plugged, gap_filled m (subst (λ (j : ℕ). G (edge n j m) ≡ true) (sym (eqb-true k g h)) e) comes_of_m, some)
      item_plugged_in (element_keeps {e = e₁} {mark = mark} {δ' = δ'} a d) g h e =
          let (φ'', d'', t) = plugged_in d g h e in (one (element e₁ mark δ' φ''), element_keeps a d'', inl (inr t))

  reached_page : {n : ℕ} → Reached φs G n → (page : Items) → Derives φs G n (template_at φs n) page → SomeElement P page → SomePage
  reached_page (from_root {r = r} g y) page d s = (page, (r, (g, d)), s)
  reached_page (through_gap {g = g} {m = m} r h e y) page d s =
      let (page₀, d₀) = reached_yields φs G r in
      let (page₁, d₁, s₁) = plugged_in m page d s d₀ g h e in
      reached_page r page₁ d₁ s₁

  -- Every element of a template that is reached stands in a page of the language, made in any way it can be.
  pub stands_in : SomeReached → SomePage
  stands_in (n, r, s) =
      let (page₀, d₀) = reached_yields φs G r in
      let (page, d, t) = made_in d₀ s in
      reached_page r page d t

  pub standing : SomePage ↔ SomeReached
  standing = (comes_of, stands_in)
