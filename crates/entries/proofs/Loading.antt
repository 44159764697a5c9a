-- A graph while the items under a head are put into it, and while they are taken out again.
use Prim.Native.Nat.{ℕ}
use mathlib.Core.Path.{◌≡◌, refl, sym, ap, ◌∙◌}
use mathlib.Core.List.{List, [], ◌∷◌}
use mathlib.Core.Logic.{inl, inr}
use mathlib.Core.Bool.{Bool, true, false, ◌||◌, or-false, false≢true}
use Rattle.commands.specs.declared.Context.TheVariants.{TemplateHoldings}
use Rattle.commands.specs.declared.Position.{Position}
use Rattle.summaries.specs.Proposal.{Holding}
use Rattle.summaries.specs.Summaries.{Summary, says_claim, held}
use Rattle.summaries.specs.declared.Claim as Declared
use Rattle.std.specs.Prelude.{Option, Some, None}
use Rattle.std.proofs.lemmas.Option.{none-some, same_Some}
use Rattle.summaries.specs.Inner.Listed.{HoldingFits, Listed, meaning_of, claim_here, ClaimMoves}
use Rattle.summaries.proofs.Steps.{claims_first, claims_end}
use Rattle.graphs.specs.Inner.Graphs.{Keeps, Forgotten, nothing, adding}
use Rattle.graphs.proofs.Storing.{keeps_same}
use Rattle.entries.specs.Inner.Entries.{Taken, Loads, Unloads}
use Rattle.sets.proofs.Booleans.{or_cases, refuted}
use Rattle.entries.proofs.Walks.{claim_moves}

pub swap : (k y r : Bool) → (k || (y || r)) ≡ ((y || k) || r)
swap true true r = refl
swap true false r = refl
swap false true r = refl
swap false false r = refl

-- The step that the code takes.
module _ (s : List ℕ) (at : ℕ) (r : Option (Declared.Claim × Position)) (is : r ≡ claim_here s at) where
  module _ (item : Declared.Claim) (next : Position) (e : r ≡ Some (item, next)) where
    taken_more : (ys : List Holding) → Taken s next.at ys → Taken s at (meaning_of item ∷ ys)
    unfolding Taken
    taken_more ys t = record { item = item; next = next; is = sym is ∙ e; means = refl; more = t }

    module _ (moves : ClaimMoves s at r) (before middle after : List ℕ) where
      pub load_goes : (HoldingFits (meaning_of item) → (R : Summary) → Keeps before R → Keeps middle (adding (meaning_of item) R)) → Loads s next.at middle after → Loads s at before after
      unfolding held
      load_goes adds l = record {
        items = meaning_of item ∷ l.items;
        taken = taken_more l.items l.taken;
        keeps = λ R K.
            keeps_same after _ _ (λ c g. swap (R c) (says_claim (meaning_of item) c) (held says_claim l.items c))
            (l.keeps (adding (meaning_of item) R) (adds (claim_moves s at r moves item next e).fits R K));
      }

      pub unload_goes : (HoldingFits (meaning_of item) → (R : Summary) → Keeps before R → Forgotten (meaning_of item) R middle) → Unloads s next.at middle after → Unloads s at before after
      unfolding held
      unload_goes forgets u = record {
        items = meaning_of item ∷ u.items;
        taken = taken_more u.items u.taken;
        keeps = λ R K w.
            let f = forgets (claim_moves s at r moves item next e).fits R K in
            u.keeps f.left f.keeps (λ c h. elim (or_cases (says_claim (meaning_of item) c) (held says_claim u.items c) (w c (f.within c h))) [
              | inl q ↦ absurd (false≢true (sym (f.gone c q) ∙ h))
              | inr q ↦ q
            ]);
      }

  module _ (e : r ≡ None) (graph : List ℕ) where
    pub load_ends : Loads s at graph graph
    unfolding held Taken
    load_ends = record { items = []; taken = sym is ∙ e; keeps = λ R K. keeps_same graph R _ (λ c g. or-false (R c)) K }

    pub unload_ends : Unloads s at graph graph
    unfolding held Taken
    unload_ends = record {
      items = [];
      taken = sym is ∙ e;
      keeps = λ R K w. keeps_same graph R nothing (λ c g. sym (refuted (R c) (λ h. false≢true (w c h)))) K;
    }

-- The items that are taken off are those that stand there, and are the same each time.
pub taken_listed : (s : List ℕ) (at : ℕ) (xs ys : List Holding) → Taken s at xs → Listed TemplateHoldings s at ys → xs ≡ ys
unfolding Taken
taken_listed s at [] ys t l = sym (claims_end s at ys l (claim_here s at) refl t)
taken_listed s at (x ∷ xs) ys t l =
    let f = claims_first s at ys l (claim_here s at) refl t.item t.next t.is in
    let q = taken_listed s t.next.at xs f.rest t.more f.stand in
    let m = t.means in
    let n = f.is_more in
    cc

taken_once : (s : List ℕ) (at : ℕ) (xs ys : List Holding) → Taken s at xs → Taken s at ys → xs ≡ ys
unfolding Taken
taken_once s at [] [] t u = refl
taken_once s at [] (y ∷ ys) t u = absurd (none-some (u.item, u.next) (sym t ∙ u.is))
taken_once s at (x ∷ xs) [] t u = absurd (none-some (t.item, t.next) (sym u ∙ t.is))
taken_once s at (x ∷ xs) (y ∷ ys) t u =
    let q : ◌≡◌ {A = Declared.Claim × Position} (t.item, t.next) (u.item, u.next) = same_Some (t.item, t.next) (u.item, u.next) (sym t.is ∙ u.is) in
    let same : t.item ≡ u.item = ap (λ (p : Declared.Claim × Position). p.0) q in
    let same_next : t.next ≡ u.next = ap (λ (p : Declared.Claim × Position). p.1) q in
    let rest : xs ≡ ys = taken_once s t.next.at xs ys t.more (rw same_next u.more) in
    let m = t.means in
    let n = u.means in
    cc

module _ (s : List ℕ) (at : ℕ) (before after : List ℕ) (empty : Keeps before nothing) (loads : Loads s at before after) where
  -- A graph that held nothing keeps the entry.
  pub kept_entry : (xs : List Holding) → Listed TemplateHoldings s at xs → Keeps after (held says_claim xs)
  kept_entry xs l = rw (← taken_listed s at loads.items xs loads.taken l) (loads.keeps nothing empty)

  -- What is loaded into it is unloaded.
  pub emptied : (last : List ℕ) → Unloads s at after last → Keeps last nothing
  emptied last u = u.keeps (held says_claim loads.items) (loads.keeps nothing empty) (rw (taken_once s at loads.items u.items loads.taken u.taken) (λ c h. h))
