-- Items that are the same but for blank text and marks, where the mark of an element here and that of its like there are as M says. The
-- relation can be turned round, so a law is proved from here to there alone.
use Prim.Native.Nat.{ℕ, ◌+◌}
use mathlib.Core.Path.{◌≡◌, refl}
use mathlib.Core.List.{List}
use lib.ListN.{length}
use Rattle.pages.specs.Items.{Attribute, Item, text, blank, gap, element, Items, none, more, ◌⋈◌, without_blank, without_blank_item}
use Rattle.pages.specs.Written.{written_item, written_attributes, marked, marked_item}

mutual
  pub data Alike (M : ℕ → ℕ → Type 0) : Items → Items → Type 0 where
    nothing : Alike M none none
    blank_here : {φ φ' : Items} → Alike M φ φ' → Alike M (more blank φ) φ'
    blank_there : {φ φ' : Items} → Alike M φ φ' → Alike M φ (more blank φ')
    both : {i i' : Item} {φ φ' : Items} → AlikeItem M i i' → Alike M φ φ' → Alike M (more i φ) (more i' φ')

  pub data AlikeItem (M : ℕ → ℕ → Type 0) : Item → Item → Type 0 where
    both_text : AlikeItem M text text
    both_gap : {g : ℕ} → AlikeItem M (gap g) (gap g)
    both_element : {e mark mark' : ℕ} {δ : List Attribute} {φ φ' : Items} → M mark mark' → Alike M φ φ'
        → AlikeItem M (element e mark δ φ) (element e mark' δ φ')

abbrev pub Turned : (ℕ → ℕ → Type 0) → ℕ → ℕ → Type 0
Turned M mark mark' = M mark' mark

-- The same marks, and whatever marks.
abbrev pub Same : ℕ → ℕ → Type 0
Same mark mark' = mark ≡ mark'

abbrev pub Any : ℕ → ℕ → Type 0
Any mark mark' = Unit {0}

module _ {M : ℕ → ℕ → Type 0} where
  mutual
    pub turned : {φ φ' : Items} → Alike M φ φ' → Alike (Turned M) φ' φ
    turned nothing = nothing
    turned (blank_here a) = blank_there (turned a)
    turned (blank_there a) = blank_here (turned a)
    turned (both i a) = both (turned_item i) (turned a)

    turned_item : {i i' : Item} → AlikeItem M i i' → AlikeItem (Turned M) i' i
    turned_item both_text = both_text
    turned_item both_gap = both_gap
    turned_item (both_element m a) = both_element m (turned a)

  module _ (same : (mark : ℕ) → M mark mark) where
    mutual
      pub itself : (φ : Items) → Alike M φ φ
      itself none = nothing
      itself (more i φ) = itself_item i (itself φ)

      itself_item : (i : Item) {φ : Items} → Alike M φ φ → Alike M (more i φ) (more i φ)
      itself_item text a = both both_text a
      itself_item blank a = blank_here (blank_there a)
      itself_item (gap g) a = both both_gap a
      itself_item (element e mark δ χ) a = both (both_element (same mark) (itself χ)) a

  mutual
    unfolding without_blank ◌⋈◌

    pub solid : {φ φ' : Items} → Alike M φ φ' → Alike M φ (without_blank φ')
    solid nothing = nothing
    solid (blank_here a) = blank_here (solid a)
    solid (blank_there a) = solid a
    solid (both i a) = solid_item i (solid a)

    solid_item : {i i' : Item} → AlikeItem M i i' → {φ φ' : Items} → Alike M φ φ' → Alike M (more i φ) (without_blank_item i' ⋈ φ')
    solid_item both_text a = both both_text a
    solid_item both_gap a = both both_gap a
    solid_item (both_element m b) a = both (both_element m (solid b)) a

  pub appended : {u u' v v' : Items} → Alike M u u' → Alike M v v' → Alike M (u ⋈ v) (u' ⋈ v')
  unfolding ◌⋈◌
  appended nothing b = b
  appended (blank_here a) b = blank_here (appended a b)
  appended (blank_there a) b = blank_there (appended a b)
  appended (both i a) b = both i (appended a b)

-- Blank text left out, with all marks kept.
pub without : (φ : Items) → Alike Same φ (without_blank φ)
without φ = solid (itself (λ _. refl) φ)

-- Other marks there: where the elements are written.
mutual
  unfolding marked

  pub marked_anew : {φ φ' : Items} → Alike Any φ φ' → (at : ℕ) → Alike Any φ (marked at φ')
  marked_anew nothing at = nothing
  marked_anew (blank_here a) at = blank_here (marked_anew a at)
  marked_anew (blank_there a) at = blank_there (marked_anew a (at + 1))
  marked_anew (both {i' = i'} i a) at = both (marked_item_anew i at) (marked_anew a (at + length (written_item i')))

  marked_item_anew : {i i' : Item} → AlikeItem Any i i' → (at : ℕ) → AlikeItem Any i (marked_item at i')
  marked_item_anew both_text at = both_text
  marked_item_anew both_gap at = both_gap
  marked_item_anew (both_element {δ = δ} m a) at = both_element tt (marked_anew a (at + 2 + length (written_attributes δ)))
