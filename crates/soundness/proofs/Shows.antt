-- A shown page is in the language of its show: a described value, closed as a show closes it, is derived from the closed graph. A gap that
-- stayed open takes template 0, and an attribute whose gap stayed open is dropped: its template is an origin.
use Prim.Native.Nat.{ℕ}
use mathlib.Core.Path.{◌≡◌, refl, sym, ap, subst, ◌∙◌}
use mathlib.Core.List.{List, [], ◌∷◌}
use mathlib.Core.Option.{Option}
use Rattle.pages.specs.Items.{Value, Attribute, Item, Items, none, ◌⋈◌}
use Rattle.programs.specs.Program.{template_at}
use Rattle.programs.specs.Runs.{filled, replaced, closing, string_of, closed}
use Rattle.summaries.specs.Proposal.{edge, gap_from}
use Rattle.summaries.specs.Summaries.{Summary}
use Rattle.summaries.specs.Languages.{closed_summary, AttributesDerive, Derives, ItemDerives, Language}
use Rattle.summaries.specs.Languages as Languages
use Rattle.sets.proofs.Booleans.{or_left, or_right}
use Rattle.soundness.proofs.Described.{takes, stays, AttributesDescribed, no_attribute, fixed, holds, Describes, nothing, item_then, DescribesItem, text_stays, blank_stays, gap_stays, gap_filled, element_keeps, replaced_⋈}
use Rattle.soundness.proofs.Statements.{Holds}

pub template_zero : (φs : List Items) → template_at φs 0 ≡ none
unfolding template_at
template_zero [] = refl
template_zero (φ ∷ φs) = refl

abbrev left_empty : ℕ → Items
left_empty g = none

abbrev left_out : ℕ → Option Value
left_out h = string_of closing

module _ (S : Summary) (φs : List Items) where
  attributes_close : {n : ℕ} {δ δ' : List Attribute} → AttributesDescribed S n δ δ' → AttributesDerive φs (closed_summary S) n δ (filled left_out δ')
  unfolding filled
  attributes_close no_attribute = Languages.no_attribute
  attributes_close (fixed d) = Languages.fixed (attributes_close d)
  attributes_close (holds (takes s e) d) = Languages.filled s e (attributes_close d)
  attributes_close (holds (stays e) d) = Languages.dropped e (attributes_close d)

  mutual
    unfolding replaced ◌⋈◌

    described_close : {n : ℕ} {φ v : Items} → Describes S φs n φ v → Derives φs (closed_summary S) n φ (replaced left_empty left_out v)
    described_close nothing = Languages.nothing
    described_close (item_then {u = u} {v = v} d ds e) =
        Languages.item_then (item_closes d) (described_close ds) (ap (replaced left_empty left_out) e ∙ replaced_⋈ left_empty left_out u v)

    item_closes : {n : ℕ} {i : Item} {u : Items} → DescribesItem S φs n i u → ItemDerives φs (closed_summary S) n i (replaced left_empty left_out u)
    item_closes text_stays = Languages.text_stays
    item_closes blank_stays = Languages.blank_stays
    item_closes (gap_stays {n = n} {g = g} e) =
        Languages.gap_filled 0 (or_right (S (edge n g 0)) (S (gap_from g n)) e)
        (subst (λ (φ : Items). Derives φs (closed_summary S) 0 φ none) (sym (template_zero φs)) Languages.nothing)
    item_closes (gap_filled {n = n} {g = g} m e d) = Languages.gap_filled m (or_left (S (edge n g m)) _ e) (described_close d)
    item_closes (element_keeps a d) = Languages.element_keeps (attributes_close a) (described_close d)

pub shown_in_language : {S : Summary} {φs : List Items} {v : Items} → Holds S φs v → Language φs (closed_summary S) (closed v)
unfolding closed
shown_in_language {S} {φs} a = (a.origin, (a.is_root, described_close S φs a.describes))
