-- The test that a page is exactly the root element decides it.
use Prim.Native.Nat.{ℕ}
use native.Mathlib.Omega.{arith}
use mathlib.Core.Path.{◌≡◌, refl}
use mathlib.Core.List.{List}
use mathlib.Core.Bool.{true}
use mathlib.Core.Logic.{◌↔◌}
use Rattle.vocabularies.specs.Vocabulary.{Vocabulary}
use Rattle.pages.specs.Items.{Attribute, Item, text, blank, gap, element, Items, none, more, one, without_blank}
use Rattle.pages.specs.RightPages.{RootAlone}
use Rattle.judging.specs.Inner.Judgement.{is_element, is_none, is_only, is_alone}
use Rattle.agreement.proofs.Deciding.{Decided, holds, fails, true_iff, decided_iff, decided_and, decided_eq}

-- The item is an element of this name.
abbrev Named : ℕ → Item → Type 0
Named e i = (mark : ℕ) × (δ : List Attribute) × (φ : Items) × (i ≡ element e mark δ φ)

apart_text : (e : ℕ) → Named e text → ⊥
apart_text e t = let p = t.3 in let z : ◌≡◌ {A = ℕ} 0 1 = cc in omega arith

apart_blank : (e : ℕ) → Named e blank → ⊥
apart_blank e t = let p = t.3 in let z : ◌≡◌ {A = ℕ} 0 1 = cc in omega arith

apart_gap : (e g : ℕ) → Named e (gap g) → ⊥
apart_gap e g t = let p = t.3 in let z : ◌≡◌ {A = ℕ} 0 1 = cc in omega arith

named_element : (e e' mark : ℕ) (δ : List Attribute) (φ : Items) → (e' ≡ e) ↔ Named e (element e' mark δ φ)
named_element e e' mark δ φ = (λ p. (mark, δ, φ, rw p), λ t. let p = t.3 in cc)

decided_named : (e : ℕ) (i : Item) → Decided (Named e i) (is_element e i)
decided_named e text = fails (apart_text e)
decided_named e blank = fails (apart_blank e)
decided_named e (gap g) = fails (apart_gap e g)
decided_named e (element e' mark δ φ) = decided_iff (named_element e e' mark δ φ) (decided_eq e' e)

not_none : (i : Item) (φ : Items) → more i φ ≡ none → ⊥
not_none i φ p = let z : ◌≡◌ {A = ℕ} 0 1 = cc in omega arith

decided_none : (φ : Items) → Decided (φ ≡ none) (is_none φ)
decided_none none = holds refl
decided_none (more i φ) = fails (not_none i φ)

module _ (e : ℕ) where
  -- The items are one element of this name.
  abbrev Only : Items → Type 0
  Only φ = (mark : ℕ) × (δ : List Attribute) × (contents : Items) × (φ ≡ one (element e mark δ contents))

  only_iff : (i : Item) (φ : Items) → (Named e i × (φ ≡ none)) ↔ Only (more i φ)
  only_iff i φ = (λ h. (h.0.0, h.0.1, h.0.2, rw (h.0.3, h.1)), λ t. let p = t.3 in ((t.0, t.1, t.2, cc), cc))

  nothing_only : Only none → ⊥
  nothing_only t = let p = t.3 in let z : ◌≡◌ {A = ℕ} 0 1 = cc in omega arith

  decided_only : (φ : Items) → Decided (Only φ) (is_only e φ)
  decided_only none = fails nothing_only
  decided_only (more i φ) = decided_iff (only_iff i φ) (decided_and (decided_named e i) (decided_none φ))

module _ (D : Vocabulary) where
  pub decided_alone : (φ : Items) → Decided (RootAlone D φ) (is_alone D.root φ)
  decided_alone φ = decided_only D.root (without_blank φ)

  pub root_alone_iff : (φ : Items) → (is_alone D.root φ ≡ true) ↔ RootAlone D φ
  root_alone_iff φ = true_iff (decided_alone φ)
