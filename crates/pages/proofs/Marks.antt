-- Being right ignores marks: a page with other marks is right exactly if it is.
use Prim.Native.Nat.{ℕ}
use mathlib.Core.Path.{◌≡◌, refl, sym, ◌∙◌}
use mathlib.Core.List.{List}
use mathlib.Core.Logic.{inl, inr}
use native.Mathlib.Omega.{arith}
use Rattle.vocabularies.specs.Vocabulary.{Formula, conj, disj, neg, truth, attr, content, order, value, Vocabulary}
use Rattle.pages.specs.Items.{Attribute, Item, text, blank, gap, element, Items, none, more, one, ◌⋈◌, without_blank, without_blank_item, gap_in, gap_in_item, attribute_gap_in, attribute_gap_in_item}
use Rattle.pages.specs.RightPages.{word, word_item, Meets, ElementRight, Accepts, AcceptsItem, RootAlone, Right}
use Rattle.pages.specs.Written.{written_items, written_item, written_attributes, remarked, remarked_item}

-- What a formula says of contents goes by their word.
module _ (δ : List Attribute) (φ φ' : Items) (same : word φ ≡ word φ') where
  pub meets_there : (ψ : Formula) → (Meets δ φ ψ → Meets δ φ' ψ) × (Meets δ φ' ψ → Meets δ φ ψ)
  unfolding Meets
  meets_there (conj ψ₁ ψ₂) =
      let a = meets_there ψ₁ in
      let b = meets_there ψ₂ in
      (λ h. (a.0 h.0, b.0 h.1), λ h. (a.1 h.0, b.1 h.1))
  meets_there (disj ψ₁ ψ₂) =
      let a = meets_there ψ₁ in
      let b = meets_there ψ₂ in
      (λ h. elim h [ inl x ↦ inl (a.0 x) | inr x ↦ inr (b.0 x) ], λ h. elim h [ inl x ↦ inl (a.1 x) | inr x ↦ inr (b.1 x) ])
  meets_there (neg ψ) = let a = meets_there ψ in (λ h x. h (a.1 x), λ h x. h (a.0 x))
  meets_there truth = (λ h. h, λ h. h)
  meets_there (attr a) = (λ h. h, λ h. h)
  meets_there (content c) = (λ h. rw same at h, λ h. rw same h)
  meets_there (order c₁ c₂) = (λ h. rw same at h, λ h. rw same h)
  meets_there (value a m) = (λ h. h, λ h. h)

  pub element_there : (D : Vocabulary) (e : ℕ) → ElementRight D e δ φ → ElementRight D e δ φ'
  element_there D e r = record {
    rule = r.rule;
    declares = r.declares;
    attributes = r.attributes;
    contents = rw same at r.contents;
    clauses = λ ψ h. (meets_there ψ).0 (r.clauses ψ h);
  }

module _ (m : ℕ → ℕ) where
  pub remarked_word : (φ : Items) → word (remarked m φ) ≡ word φ
  unfolding word word_item remarked
  remarked_word none = refl
  remarked_word (more text φ) = rw (remarked_word φ)
  remarked_word (more blank φ) = remarked_word φ
  remarked_word (more (gap g) φ) = remarked_word φ
  remarked_word (more (element e mark δ χ) φ) = rw (remarked_word φ)

  mutual
    unfolding gap_in remarked

    pub remarked_gaps : (φ : Items) (g : ℕ) → gap_in (remarked m φ) g ≡ gap_in φ g
    remarked_gaps none g = refl
    remarked_gaps (more i φ) g = rw (remarked_item_gaps i g, remarked_gaps φ g)

    remarked_item_gaps : (i : Item) (g : ℕ) → gap_in_item (remarked_item m i) g ≡ gap_in_item i g
    remarked_item_gaps text g = refl
    remarked_item_gaps blank g = refl
    remarked_item_gaps (gap k) g = refl
    remarked_item_gaps (element e mark δ φ) g = remarked_gaps φ g

  mutual
    unfolding attribute_gap_in remarked

    pub remarked_attribute_gaps : (φ : Items) (h : ℕ) → attribute_gap_in (remarked m φ) h ≡ attribute_gap_in φ h
    remarked_attribute_gaps none h = refl
    remarked_attribute_gaps (more i φ) h = rw (remarked_item_attribute_gaps i h, remarked_attribute_gaps φ h)

    remarked_item_attribute_gaps : (i : Item) (h : ℕ) → attribute_gap_in_item (remarked_item m i) h ≡ attribute_gap_in_item i h
    remarked_item_attribute_gaps text h = refl
    remarked_item_attribute_gaps blank h = refl
    remarked_item_attribute_gaps (gap k) h = refl
    remarked_item_attribute_gaps (element e mark δ φ) h = rw (remarked_attribute_gaps φ h)

  mutual
    unfolding written_items written_attributes remarked

    -- Marks are not written.
    pub remarked_written : (φ : Items) → written_items (remarked m φ) ≡ written_items φ
    remarked_written none = refl
    remarked_written (more i φ) = rw (remarked_item_written i, remarked_written φ)

    remarked_item_written : (i : Item) → written_item (remarked_item m i) ≡ written_item i
    remarked_item_written text = refl
    remarked_item_written blank = refl
    remarked_item_written (gap g) = refl
    remarked_item_written (element e mark δ φ) = rw (remarked_written φ)

  pub remarked_append : (φ ψ : Items) → remarked m (φ ⋈ ψ) ≡ remarked m φ ⋈ remarked m ψ
  unfolding remarked ◌⋈◌
  remarked_append none ψ = refl
  remarked_append (more i φ) ψ = rw (remarked_append φ ψ)

  mutual
    unfolding without_blank remarked ◌⋈◌

    -- Blank text has no mark.
    pub remarked_solid : (φ : Items) → without_blank (remarked m φ) ≡ remarked m (without_blank φ)
    remarked_solid none = refl
    remarked_solid (more i φ) = rw (remarked_item_solid i, remarked_solid φ) (sym (remarked_append (without_blank_item i) (without_blank φ)))

    remarked_item_solid : (i : Item) → without_blank_item (remarked_item m i) ≡ remarked m (without_blank_item i)
    remarked_item_solid text = refl
    remarked_item_solid blank = refl
    remarked_item_solid (gap g) = refl
    remarked_item_solid (element e mark δ φ) = rw (remarked_solid φ)

  module _ (D : Vocabulary) where
    mutual
      unfolding Accepts remarked

      pub remarked_accepted : (φ : Items) → Accepts D φ → Accepts D (remarked m φ)
      remarked_accepted none h = h
      remarked_accepted (more i φ) h = (remarked_item_accepted i h.0, remarked_accepted φ h.1)

      remarked_item_accepted : (i : Item) → AcceptsItem D i → AcceptsItem D (remarked_item m i)
      remarked_item_accepted text h = h
      remarked_item_accepted blank h = h
      remarked_item_accepted (gap g) h = h
      remarked_item_accepted (element e mark δ φ) h =
          (element_there δ φ (remarked m φ) (sym (remarked_word φ)) D e h.0, remarked_accepted φ h.1)

    mutual
      unfolding Accepts remarked

      pub accepted_remarked : (φ : Items) → Accepts D (remarked m φ) → Accepts D φ
      accepted_remarked none h = h
      accepted_remarked (more i φ) h = (accepted_item_remarked i h.0, accepted_remarked φ h.1)

      accepted_item_remarked : (i : Item) → AcceptsItem D (remarked_item m i) → AcceptsItem D i
      accepted_item_remarked text h = h
      accepted_item_remarked blank h = h
      accepted_item_remarked (gap g) h = h
      accepted_item_remarked (element e mark δ φ) h =
          (element_there δ (remarked m φ) φ (remarked_word φ) D e h.0, accepted_remarked φ h.1)

    remarked_alone : (φ : Items) → RootAlone D φ → RootAlone D (remarked m φ)
    unfolding remarked
    remarked_alone φ h = (m h.0, h.1, remarked m h.2, remarked_solid φ ∙ rw h.3)

    none_remarked : (φ : Items) → remarked m φ ≡ none → φ ≡ none
    unfolding remarked
    none_remarked none e = refl
    none_remarked (more i φ) e = absurd (let z : ◌≡◌ {A = ℕ} 0 1 = cc in omega arith)

    root_remarked : (φ : Items) (mark : ℕ) (δ : List Attribute) (contents : Items) → remarked m φ ≡ one (element D.root mark δ contents)
        → (mark : ℕ) × (δ : List Attribute) × (contents : Items) × (φ ≡ one (element D.root mark δ contents))
    unfolding remarked
    root_remarked none mark δ contents q = absurd (let z : ◌≡◌ {A = ℕ} 0 1 = cc in omega arith)
    root_remarked (more text φ) mark δ contents q = absurd (let z : ◌≡◌ {A = ℕ} 0 1 = cc in omega arith)
    root_remarked (more blank φ) mark δ contents q = absurd (let z : ◌≡◌ {A = ℕ} 0 1 = cc in omega arith)
    root_remarked (more (gap g) φ) mark δ contents q = absurd (let z : ◌≡◌ {A = ℕ} 0 1 = cc in omega arith)
    root_remarked (more (element e k δ' χ) φ) mark δ contents q =
        let root : e ≡ D.root = cc in
        let rest : remarked m φ ≡ none = cc in
        (k, δ', χ, rw (root, none_remarked φ rest))

    alone_remarked : (φ : Items) → RootAlone D (remarked m φ) → RootAlone D φ
    alone_remarked φ h = root_remarked (without_blank φ) h.0 h.1 h.2 (sym (remarked_solid φ) ∙ h.3)

    pub remarked_right : (φ : Items) → Right D φ → Right D (remarked m φ)
    remarked_right φ r = record {
      alone = remarked_alone φ r.alone;
      accepted = remarked_accepted φ r.accepted;
      gapless = record {
        gaps = λ g. remarked_gaps φ g ∙ r.gapless.gaps g;
        attribute_gaps = λ h. remarked_attribute_gaps φ h ∙ r.gapless.attribute_gaps h;
      };
    }

    pub right_remarked : (φ : Items) → Right D (remarked m φ) → Right D φ
    right_remarked φ r = record {
      alone = alone_remarked φ r.alone;
      accepted = accepted_remarked φ r.accepted;
      gapless = record {
        gaps = λ g. sym (remarked_gaps φ g) ∙ r.gapless.gaps g;
        attribute_gaps = λ h. sym (remarked_attribute_gaps φ h) ∙ r.gapless.attribute_gaps h;
      };
    }
