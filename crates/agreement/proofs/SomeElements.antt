-- Some element of items, at any depth, as P says.
use Prim.Native.Nat.{ℕ, ◌+◌}
use native.Mathlib.Omega.{arith}
use mathlib.Core.Path.{◌≡◌, refl}
use mathlib.Core.List.{List}
use mathlib.Core.Logic.{inl, inr}
use Rattle.pages.specs.Items.{Attribute, Item, text, blank, gap, element, Items, none, more}
use Rattle.pages.specs.RightPages.{SomeElement, SomeElementOf}
use Rattle.agreement.proofs.Marks.{Rises, RisesIn, within, within_item}

-- What is said of an element: its name, mark, attributes and contents.
abbrev pub Saying : Type 1
Saying = ℕ → ℕ → List Attribute → Items → Type 0

-- One of which more is said.
module _ (P Q : Saying) (to : (e mark : ℕ) (δ : List Attribute) (φ : Items) → P e mark δ φ → Q e mark δ φ) where
  mutual
    unfolding SomeElement

    pub some_into : (φ : Items) → SomeElement P φ → SomeElement Q φ
    some_into none s = s
    some_into (more i φ) (inl s) = inl (item_some_into i s)
    some_into (more i φ) (inr s) = inr (some_into φ s)

    pub item_some_into : (i : Item) → SomeElementOf P i → SomeElementOf Q i
    item_some_into text s = s
    item_some_into blank s = s
    item_some_into (gap g) s = s
    item_some_into (element e mark δ φ) (inl p) = inl (to e mark δ φ p)
    item_some_into (element e mark δ φ) (inr s) = inr (some_into φ s)

-- What follows from any of them.
module _ (P : Saying) {Q : Type 0} (to : (e mark : ℕ) (δ : List Attribute) (φ : Items) → P e mark δ φ → Q) where
  mutual
    unfolding SomeElement

    pub some_then : (φ : Items) → SomeElement P φ → Q
    some_then none s = absurd s
    some_then (more i φ) (inl s) = item_some_then i s
    some_then (more i φ) (inr s) = some_then φ s

    item_some_then : (i : Item) → SomeElementOf P i → Q
    item_some_then text s = absurd s
    item_some_then blank s = absurd s
    item_some_then (gap g) s = absurd s
    item_some_then (element e mark δ φ) (inl p) = to e mark δ φ p
    item_some_then (element e mark δ φ) (inr s) = some_then φ s

-- What follows for it where something is said of all names.
module _ (ruled : ℕ → Type 0) (P : Saying) where
  mutual
    unfolding SomeElement

    pub some_named : (φ : Items) → ((e : ℕ) → SomeElement (λ e' mark δ χ. e' ≡ e) φ → ruled e) → SomeElement P φ → SomeElement (λ e mark δ χ. ruled e × P e mark δ χ) φ
    some_named none h s = absurd s
    some_named (more i φ) h (inl s) = inl (item_some_named i (λ e t. h e (inl t)) s)
    some_named (more i φ) h (inr s) = inr (some_named φ (λ e t. h e (inr t)) s)

    item_some_named : (i : Item) → ((e : ℕ) → SomeElementOf (λ e' mark δ χ. e' ≡ e) i → ruled e) → SomeElementOf P i → SomeElementOf (λ e mark δ χ. ruled e × P e mark δ χ) i
    item_some_named text h s = absurd s
    item_some_named blank h s = absurd s
    item_some_named (gap g) h s = absurd s
    item_some_named (element e mark δ φ) h (inl p) = inl (h e (inl refl), p)
    item_some_named (element e mark δ φ) h (inr s) = inr (some_named φ (λ c t. h c (inr t)) s)

-- One of which this is said for some a.
module _ {A : Type 0} (P : A → Saying) where
  mutual
    unfolding SomeElement

    pub some_sum : (φ : Items) → SomeElement (λ e mark δ χ. (a : A) × P a e mark δ χ) φ → (a : A) × SomeElement (P a) φ
    some_sum none s = absurd s
    some_sum (more i φ) (inl s) = let (a, t) = item_some_sum i s in (a, inl t)
    some_sum (more i φ) (inr s) = let (a, t) = some_sum φ s in (a, inr t)

    item_some_sum : (i : Item) → SomeElementOf (λ e mark δ χ. (a : A) × P a e mark δ χ) i → (a : A) × SomeElementOf (P a) i
    item_some_sum text s = absurd s
    item_some_sum blank s = absurd s
    item_some_sum (gap g) s = absurd s
    item_some_sum (element e mark δ φ) (inl (a, p)) = (a, inl p)
    item_some_sum (element e mark δ φ) (inr s) = let (a, t) = some_sum φ s in (a, inr t)

-- Where marks rise, two elements of one mark are one.
module _ (at : ℕ) (P Q : Saying) where
  abbrev At : Saying → Saying
  At R e mark δ φ = (mark ≡ at) × R e mark δ φ

  abbrev Both : Saying
  Both e mark δ φ = (mark ≡ at) × (P e mark δ φ × Q e mark δ φ)

  at_mark : (R : Saying) (φ : Items) → SomeElement (At R) φ → SomeElement (λ e m δ χ. m ≡ at) φ
  at_mark R = some_into (At R) (λ e m δ χ. m ≡ at) (λ e m δ χ h. h.0)

  at_mark_in : (R : Saying) (i : Item) → SomeElementOf (At R) i → SomeElementOf (λ e m δ χ. m ≡ at) i
  at_mark_in R = item_some_into (At R) (λ e m δ χ. m ≡ at) (λ e m δ χ h. h.0)

  mutual
    unfolding SomeElement Rises

    pub one_element : (φ : Items) (low high : ℕ) → Rises low φ high → SomeElement (λ e mark δ χ. (mark ≡ at) × P e mark δ χ) φ
        → SomeElement (λ e mark δ χ. (mark ≡ at) × Q e mark δ χ) φ → SomeElement (λ e mark δ χ. (mark ≡ at) × (P e mark δ χ × Q e mark δ χ)) φ
    one_element none low high r p q = absurd p
    one_element (more i φ) low high r (inl p) (inl q) = inl (one_element_in i low r.0 r.1 p q)
    one_element (more i φ) low high r (inl p) (inr q) =
        absurd (omega (arith, within_item i low r.0 at r.1 (at_mark_in P i p), within φ r.0 high at r.2 (at_mark Q φ q)))
    one_element (more i φ) low high r (inr p) (inl q) =
        absurd (omega (arith, within_item i low r.0 at r.1 (at_mark_in Q i q), within φ r.0 high at r.2 (at_mark P φ p)))
    one_element (more i φ) low high r (inr p) (inr q) = inr (one_element φ r.0 high r.2 p q)

    one_element_in : (i : Item) (low high : ℕ) → RisesIn low i high → SomeElementOf (At P) i → SomeElementOf (At Q) i → SomeElementOf Both i
    one_element_in text low high r p q = absurd p
    one_element_in blank low high r p q = absurd p
    one_element_in (gap g) low high r p q = absurd p
    one_element_in (element e m δ φ) low high r (inl p) (inl q) = inl (p.0, (p.1, q.1))
    one_element_in (element e m δ φ) low high r (inl p) (inr q) = absurd (omega (arith, p.0, within φ (m + 1) high at r.1 (at_mark Q φ q)))
    one_element_in (element e m δ φ) low high r (inr p) (inl q) = absurd (omega (arith, q.0, within φ (m + 1) high at r.1 (at_mark P φ p)))
    one_element_in (element e m δ φ) low high r (inr p) (inr q) = inr (one_element φ (m + 1) high r.1 p q)
