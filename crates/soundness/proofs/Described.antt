-- A value of a run is described by a summary: the derivations of source 000, section 3, in which a gap may also stay open if its
-- template is an origin of it. A value in which every gap has closed is derived in the strict sense.
use Prim.Native.Nat.{ℕ}
use mathlib.Core.Path.{◌≡◌, refl, sym, ap, subst, ◌∙◌}
use mathlib.Core.List.{List, [], ◌∷◌}
use mathlib.Core.Bool.{true}
use mathlib.Core.Option.{Option, some}
use mathlib.Core.Option as Option
use Rattle.pages.specs.Items.{Value, string, open_gap, Attribute, Item, text, blank, gap, element, Items, none, more, one, ◌⋈◌}
use Rattle.programs.specs.Program.{template_at}
use Rattle.programs.specs.Runs.{replaced, replaced_item, filled, filled_before, filled_value}
use Rattle.summaries.specs.Proposal.{edge, gap_from, attribute_gap_from}
use Rattle.summaries.specs.Proposal as Proposal
use Rattle.summaries.specs.Summaries.{Summary}
use Rattle.summaries.specs.Languages as Languages

module _ (S : Summary) where
  -- What an attribute gap of template n may hold.
  pub data Fills (n h : ℕ) : Value → Type 0 where
    takes : (s : ℕ) → S (Proposal.string n h s) ≡ true → Fills n h (string s)
    stays : S (attribute_gap_from h n) ≡ true → Fills n h (open_gap h)

  -- What fills it; an attribute is not left out.
  abbrev pub FillsWith : ℕ → ℕ → Option Value → Type 0
  FillsWith n h Option.none = ⊥
  FillsWith n h (some v) = Fills n h v

  pub data AttributesDescribed (n : ℕ) : List Attribute → List Attribute → Type 0 where
    no_attribute : AttributesDescribed n [] []
    fixed : {a s : ℕ} {δ δ' : List Attribute} → AttributesDescribed n δ δ'
        → AttributesDescribed n (record { name = a; value = string s } ∷ δ) (record { name = a; value = string s } ∷ δ')
    holds : {a h : ℕ} {v : Value} {δ δ' : List Attribute} → Fills n h v → AttributesDescribed n δ δ'
        → AttributesDescribed n (record { name = a; value = open_gap h } ∷ δ) (record { name = a; value = v } ∷ δ')

  module _ (φs : List Items) where
    mutual
      pub data Describes : ℕ → Items → Items → Type 0 where
        nothing : {n : ℕ} → Describes n none none
        item_then : {n : ℕ} {i : Item} {φ u v w : Items} → DescribesItem n i u → Describes n φ v → w ≡ u ⋈ v → Describes n (more i φ) w

      pub data DescribesItem : ℕ → Item → Items → Type 0 where
        text_stays : {n : ℕ} → DescribesItem n text (one text)
        blank_stays : {n : ℕ} → DescribesItem n blank (one blank)
        gap_stays : {n g : ℕ} → S (gap_from g n) ≡ true → DescribesItem n (gap g) (one (gap g))
        gap_filled : {n g : ℕ} {φ' : Items} (m : ℕ) → S (edge n g m) ≡ true → Describes m (template_at φs m) φ' → DescribesItem n (gap g) φ'
        element_keeps : {n e mark : ℕ} {δ δ' : List Attribute} {φ φ' : Items} → AttributesDescribed n δ δ' → Describes n φ φ'
            → DescribesItem n (element e mark δ φ) (one (element e mark δ' φ'))

-- Lists of items one after the other.
pub ⋈-none : (φ : Items) → φ ⋈ none ≡ φ
unfolding ◌⋈◌
⋈-none none = refl
⋈-none (more i φ) = ap (more i) (⋈-none φ)

pub ⋈-assoc : (φ ψ χ : Items) → (φ ⋈ ψ) ⋈ χ ≡ φ ⋈ (ψ ⋈ χ)
unfolding ◌⋈◌
⋈-assoc none ψ χ = refl
⋈-assoc (more i φ) ψ χ = ap (more i) (⋈-assoc φ ψ χ)

module _ (put : ℕ → Items) (fill : ℕ → Option Value) where
  pub replaced_⋈ : (φ ψ : Items) → replaced put fill (φ ⋈ ψ) ≡ replaced put fill φ ⋈ replaced put fill ψ
  unfolding ◌⋈◌ replaced
  replaced_⋈ none ψ = refl
  replaced_⋈ (more i φ) ψ = ap (λ (χ : Items). replaced_item put fill i ⋈ χ) (replaced_⋈ φ ψ)
      ∙ sym (⋈-assoc (replaced_item put fill i) (replaced put fill φ) (replaced put fill ψ))

-- What a replacement keeps: where every gap that stayed open becomes what T describes, the whole becomes what T describes.
module _ (S T : Summary) (φs : List Items) (put : ℕ → Items) (fill : ℕ → Option Value)
    (edges : (n g m : ℕ) → S (edge n g m) ≡ true → T (edge n g m) ≡ true)
    (strings : (n h s : ℕ) → S (Proposal.string n h s) ≡ true → T (Proposal.string n h s) ≡ true)
    (puts : (n g : ℕ) → S (gap_from g n) ≡ true → DescribesItem T φs n (gap g) (put g))
    (fills : (n h : ℕ) → S (attribute_gap_from h n) ≡ true → FillsWith T n h (fill h)) where
  value_replaced : {n h : ℕ} {v : Value} → Fills S n h v → FillsWith T n h (filled_value fill v)
  value_replaced {n} {h} (takes s e) = takes s (strings n h s e)
  value_replaced {n} {h} (stays e) = fills n h e

  before_replaced : {n a h : ℕ} {δ δ' : List Attribute} (o : Option Value) → FillsWith T n h o → AttributesDescribed T n δ δ'
      → AttributesDescribed T n (record { name = a; value = open_gap h } ∷ δ) (filled_before a o δ')
  before_replaced Option.none f d = absurd f
  before_replaced (some v) f d = holds f d

  attributes_replaced : {n : ℕ} {δ δ' : List Attribute} → AttributesDescribed S n δ δ' → AttributesDescribed T n δ (filled fill δ')
  unfolding filled
  attributes_replaced no_attribute = no_attribute
  attributes_replaced (fixed d) = fixed (attributes_replaced d)
  attributes_replaced (holds {v = v} f d) = before_replaced (filled_value fill v) (value_replaced f) (attributes_replaced d)

  mutual
    unfolding replaced ◌⋈◌

    pub described_replaced : {n : ℕ} {φ v : Items} → Describes S φs n φ v → Describes T φs n φ (replaced put fill v)
    described_replaced nothing = nothing
    described_replaced (item_then {u = u} {v = v} d ds e) =
        item_then (item_replaced d) (described_replaced ds) (ap (replaced put fill) e ∙ replaced_⋈ put fill u v)

    pub item_replaced : {n : ℕ} {i : Item} {u : Items} → DescribesItem S φs n i u → DescribesItem T φs n i (replaced put fill u)
    item_replaced text_stays = text_stays
    item_replaced blank_stays = blank_stays
    item_replaced (gap_stays {n = n} {g = g} e) = subst (DescribesItem T φs n (gap g)) (sym (⋈-none (put g))) (puts n g e)
    item_replaced (gap_filled {n = n} {g = g} m e d) = gap_filled m (edges n g m e) (described_replaced d)
    item_replaced (element_keeps a d) = element_keeps (attributes_replaced a) (described_replaced d)
