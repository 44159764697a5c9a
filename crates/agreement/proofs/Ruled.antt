-- Every element that is read has a rule: others are refused with 8.
use Prim.Native.Nat.{ℕ, zero, suc, ◌+◌}
use mathlib.Core.Path.{◌≡◌, subst}
use mathlib.Core.List.{List, []}
use mathlib.Core.Bool.{Bool, true, false, cond}
use mathlib.Core.Logic.{⊎_elim}
use lib.Dec.{ltb, eqb}
use Rattle.commands.specs.Commands.{byte}
use Rattle.commands.specs.Reading.{whole, enough}
use Rattle.vocabularies.specs.Vocabulary.{Vocabulary, declared}
use Rattle.pages.specs.declared.Kind.{Kind}
use Rattle.pages.specs.declared.Kind.TheVariants.{Page}
use Rattle.pages.specs.Items.{Item, text, blank, gap, Items}
use Rattle.pages.specs.ItemReading.{item_context, nesting, attributes, end_of, leaf_at, items, item, page_slice}
use Rattle.pages.specs.RightPages.{SomeElement, SomeElementOf}
use Rattle.agreement.proofs.Readings.{Gives, gives, refuses, runs_out, given, gives_any, gives_command, gives_when, gives_then, gives_alone}

abbrev pub Ruled : (ℕ → Bool) → Items → Type 0
Ruled ruled φ = (e : ℕ) → SomeElement (λ e' mark δ χ. e' ≡ e) φ → ruled e ≡ true

abbrev pub RuledItem : (ℕ → Bool) → Item → Type 0
RuledItem ruled i = (e : ℕ) → SomeElementOf (λ e' mark δ χ. e' ≡ e) i → ruled e ≡ true

leaf_ruled : (ruled : ℕ → Bool) (s : List ℕ) (at code : ℕ) → RuledItem ruled (leaf_at s at code)
unfolding SomeElement
leaf_ruled ruled s at code e = cases (eqb code 0x21) (eqb code 0x29)
  where
    cases : (a b : Bool) → SomeElementOf (λ e' mark δ χ. e' ≡ e) (cond a text (cond b blank (gap (byte s (at + 1))))) → ruled e ≡ true
    cases true b h = absurd h
    cases false true h = absurd h
    cases false false h = absurd h

module _ (k : Kind) (ruled : ℕ → Bool) (s : List ℕ) where
  mutual
    unfolding items SomeElement

    items_ruled : (f depth at : ℕ) → Gives (Unit {0}) (λ φ end. Ruled ruled φ) (items f k ruled s depth at)
    items_ruled zero depth at = runs_out tt
    items_ruled (suc f) depth at = gives_when (eqb (byte s at) (end_of depth))
        (λ _ _. gives (λ e h. absurd h))
        (λ _ _. gives_then (item_ruled f depth at) λ i next m. gives_then (items_ruled f depth next) λ φ end n. gives (λ e. ⊎_elim (m e) (n e)))

    item_ruled : (f depth at : ℕ) → Gives (Unit {0}) (λ i end. RuledItem ruled i) (item f k ruled s depth at)
    item_ruled zero depth at = runs_out tt
    item_ruled (suc f) depth at = gives_command (item_context k) s at λ code next t. gives_when (eqb code 0x23)
        (λ _ _. gives_when (ruled (byte s (at + 1)))
        (λ _ has. gives_when (ltb depth (nesting k))
        (λ _ _. gives_then (gives_any (attributes f k s [] next)) λ δ inside m. gives_then (items_ruled f (depth + 1) inside) λ φ end n.
        gives (λ e. ⊎_elim (λ q. subst (λ (c : ℕ). ruled c ≡ true) q has) (n e)))
        (λ _ _. refuses))
        (λ _ _. refuses))
        (λ _ _. gives (leaf_ruled ruled s at code))

pub page_ruled : (D : Vocabulary) (p : List ℕ) (φ : Items) (end : ℕ) → page_slice D p ≡ whole φ end → Ruled (declared D.rules) φ
unfolding page_slice
page_ruled D p φ end = given (gives_alone p (items_ruled Page (declared D.rules) p (enough p) 0 0))
