-- A replacement that puts every gap of a value back changes nothing.
use Prim.Native.Nat.{ℕ}
use mathlib.Core.Path.{◌≡◌, refl, ap, ◌∙◌}
use mathlib.Core.List.{List, [], ◌∷◌}
use mathlib.Core.Bool.{true}
use mathlib.Core.Option.{Option, some}
use borrow.Author.Tests.{eq-eqb}
use Rattle.pages.specs.Items.{Value, string, open_gap, Attribute, Item, text, blank, gap, element, Items, none, more, one, ◌⋈◌, gap_in, gap_in_item, attribute_gap_in, attribute_gap_in_item, open_in, is_open_gap}
use Rattle.programs.specs.Runs.{replaced, replaced_item, filled, filled_before, filled_value, stay, stay_open}
use Rattle.sets.proofs.Booleans.{or_left, or_right}

module _ (put : ℕ → Items) (fill : ℕ → Option Value) where
  value_unchanged : (v : Value) → ((h : ℕ) → is_open_gap v h ≡ true → fill h ≡ stay_open h) → filled_value fill v ≡ some v
  value_unchanged (string s) o = refl
  value_unchanged (open_gap h) o = o h (eq-eqb h h refl)

  attributes_unchanged : (δ : List Attribute) → ((h : ℕ) → open_in δ h ≡ true → fill h ≡ stay_open h) → filled fill δ ≡ δ
  unfolding filled open_in
  attributes_unchanged [] o = refl
  attributes_unchanged (a ∷ δ) o =
      ap (λ (v : Option Value). filled_before a.name v (filled fill δ))
      (value_unchanged a.value (λ h e. o h (or_left (is_open_gap a.value h) (open_in δ h) e)))
      ∙ ap (λ (δ' : List Attribute). a ∷ δ') (attributes_unchanged δ (λ h e. o h (or_right (is_open_gap a.value h) (open_in δ h) e)))

  mutual
    unfolding replaced ◌⋈◌ gap_in attribute_gap_in

    pub unchanged : (φ : Items) → ((g : ℕ) → gap_in φ g ≡ true → put g ≡ stay g) → ((h : ℕ) → attribute_gap_in φ h ≡ true → fill h ≡ stay_open h)
        → replaced put fill φ ≡ φ
    unchanged none o p = refl
    unchanged (more i φ) o p =
        ap (λ (ψ : Items). ψ ⋈ replaced put fill φ)
        (item_unchanged i (λ g e. o g (or_left (gap_in_item i g) (gap_in φ g) e)) (λ h e. p h (or_left (attribute_gap_in_item i h) (attribute_gap_in φ h) e)))
        ∙ ap (more i)
        (unchanged φ (λ g e. o g (or_right (gap_in_item i g) (gap_in φ g) e)) (λ h e. p h (or_right (attribute_gap_in_item i h) (attribute_gap_in φ h) e)))

    item_unchanged : (i : Item) → ((g : ℕ) → gap_in_item i g ≡ true → put g ≡ stay g) → ((h : ℕ) → attribute_gap_in_item i h ≡ true → fill h ≡ stay_open h)
        → replaced_item put fill i ≡ one i
    item_unchanged text o p = refl
    item_unchanged blank o p = refl
    item_unchanged (gap g) o p = o g (eq-eqb g g refl)
    item_unchanged (element e mark δ φ) o p =
        ap (λ (δ' : List Attribute). one (element e mark δ' (replaced put fill φ)))
        (attributes_unchanged δ (λ h q. p h (or_left (open_in δ h) (attribute_gap_in φ h) q)))
        ∙ ap (λ (φ' : Items). one (element e mark δ φ')) (unchanged φ o (λ h q. p h (or_right (open_in δ h) (attribute_gap_in φ h) q)))
