-- Templates that are alike derive pages that are alike, under one graph.
use Prim.Native.Nat.{ℕ}
use mathlib.Core.Path.{◌≡◌, refl}
use mathlib.Core.List.{List}
use Rattle.pages.specs.Items.{Attribute, Item, text, blank, element, Items, none, more, one, ◌⋈◌}
use Rattle.programs.specs.Program.{template_at}
use Rattle.summaries.specs.Summaries.{Summary}
use Rattle.summaries.specs.Languages.{AttributesDerive, no_attribute, fixed, filled, dropped, Derives, ItemDerives, item_then, text_stays, blank_stays, gap_filled, element_keeps, DerivedFrom}
use Rattle.summaries.specs.Languages as Languages
use Rattle.blank_text.proofs.Alike.{Alike, nothing, blank_here, blank_there, both, AlikeItem, both_text, both_gap, both_element, appended}

module _ (M : ℕ → ℕ → Type 0) (φs φs' : List Items) (alike : (t : ℕ) → Alike M (template_at φs t) (template_at φs' t)) (G : Summary) where
  -- A page is derived there that is like this one.
  record Like (Derived : Items → Type 0) (page : Items) : Type 0 where
    like : Items
    derives : Derived like
    alike_page : Alike M page like

  more_blank : {n : ℕ} {φ page : Items} → Like (Derives φs' G n φ) page → Like (Derives φs' G n (more blank φ)) page
  unfolding ◌⋈◌
  more_blank r = record { like = more blank r.like; derives = item_then blank_stays r.derives refl; alike_page = blank_there r.alike_page }

  blanks : {n : ℕ} {φ' : Items} → Alike M none φ' → Like (Derives φs' G n φ') none
  blanks nothing = record { like = none; derives = Languages.nothing; alike_page = nothing }
  blanks (blank_there a) = more_blank (blanks a)

  attributes_there : {n : ℕ} {δ δ' : List Attribute} → AttributesDerive φs G n δ δ' → AttributesDerive φs' G n δ δ'
  attributes_there no_attribute = no_attribute
  attributes_there (fixed d) = fixed (attributes_there d)
  attributes_there (filled s e d) = filled s e (attributes_there d)
  attributes_there (dropped e d) = dropped e (attributes_there d)

  -- An item and those behind it, if each has its like whatever is like it.
  then_like : {n : ℕ} {i : Item} {φ φ' u v w : Items} → ItemDerives φs G n i u → ((i' : Item) → AlikeItem M i i' → Like (ItemDerives φs' G n i') u)
      → ((ψ : Items) → Alike M φ ψ → Like (Derives φs' G n ψ) v) → w ≡ u ⋈ v → Alike M (more i φ) φ' → Like (Derives φs' G n φ') w
  unfolding ◌⋈◌
  then_like blank_stays item rest e (blank_here a) =
      let r = rest _ a in record { like = r.like; derives = r.derives; alike_page = rw e (blank_here r.alike_page) }
  then_like d item rest e (blank_there a) = more_blank (then_like d item rest e a)
  then_like d item rest e (both i a) =
      let r = item _ i in
      let q = rest _ a in
      record { like = r.like ⋈ q.like; derives = item_then r.derives q.derives refl; alike_page = rw e (appended r.alike_page q.alike_page) }

  mutual
    like_there : {n : ℕ} {φ page : Items} → Derives φs G n φ page → (φ' : Items) → Alike M φ φ' → Like (Derives φs' G n φ') page
    like_there Languages.nothing φ' a = blanks a
    like_there (item_then d ds e) φ' a = then_like d (λ i' b. like_item_there d i' b) (λ ψ b. like_there ds ψ b) e a

    like_item_there : {n : ℕ} {i : Item} {page : Items} → ItemDerives φs G n i page → (i' : Item) → AlikeItem M i i' → Like (ItemDerives φs' G n i') page
    like_item_there (blank_stays {n = n}) i' a = elim a [ ]
    like_item_there text_stays i' both_text = record { like = one text; derives = text_stays; alike_page = both both_text nothing }
    like_item_there (gap_filled m e d) i' both_gap =
        let r = like_there d (template_at φs' m) (alike m) in
        record { like = r.like; derives = gap_filled m e r.derives; alike_page = r.alike_page }
    like_item_there (element_keeps {δ' = δ'} δs d) i' (both_element {e = e} {mark' = mark'} {φ' = φ'} m a) =
        let r = like_there d φ' a in
        record {
          like = one (element e mark' δ' r.like);
          derives = element_keeps (attributes_there δs) r.derives;
          alike_page = both (both_element m r.alike_page) nothing;
        }

  pub derived_there : (t : ℕ) (page : Items) → DerivedFrom φs G t page → (page' : Items) × DerivedFrom φs' G t page' × Alike M page page'
  derived_there t page d = let r = like_there d.1 (template_at φs' t) (alike t) in (r.like, (d.0, r.derives), r.alike_page)
