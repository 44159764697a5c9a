-- Comparing the items under a head one by one, and gathering the strings that they say.
use Prim.Native.Nat.{ℕ, ◌%◌, ◌<◌}
use mathlib.Core.Path.{◌≡◌, refl, ◌∙◌}
use mathlib.Core.List.{List, [], ◌∷◌}
use mathlib.Core.Bool.{Bool, true, false, not, ◌||◌, or-false, or_comm}
use native.Mathlib.Omega.{arith}
use lib.Dec.{eqb}
use borrow.Author.Tests.{not-true, not-false, eq-eqb, eqb-true}
use Rattle.sets.specs.Sets.{member}
use Rattle.commands.specs.declared.Context.{Context}
use Rattle.commands.specs.declared.Context.TheVariants.{TemplateHoldings, StringHoldings}
use Rattle.commands.specs.declared.Position.{Position}
use Rattle.summaries.specs.Proposal.{root, Holding, claim}
use Rattle.summaries.specs.Summaries.{Summary, same_code, says_claim, says_string, held}
use Rattle.summaries.specs.Inner.Listed.{Listed, meaning_of, string_meaning_of, string_here}
use Rattle.summaries.specs.declared.Claim.{Claim}
use Rattle.summaries.specs.declared.Claim.TheVariants.{Root, Edge, String, AnyString, GapFrom, AttributeGapFrom}
use Rattle.summaries.specs.declared.StringClaim.{StringClaim}
use Rattle.summaries.specs.declared.StringClaim.TheVariants.{One, Any}
use Rattle.std.specs.Prelude.{Option, Some}
use Rattle.summaries.proofs.Steps.{First, strings_one, strings_any}
use Rattle.strings.specs.declared.Values.{Values}
use Rattle.strings.specs.Inner.Promises.{holds_value}
use Rattle.entries.specs.declared.Passing.{Passing}
use Rattle.entries.specs.Inner.Passing.{Decides}
use Rattle.entries.specs.Inner.Entries.{WithRoot}
use Rattle.entries.proofs.Tests.{decided_true, decided_false}
use Rattle.sets.proofs.Booleans.{alike}
use Rattle.entries.proofs.Claims.{says_itself, says_alone}
use Rattle.entries.proofs.Walks.{Walked, walk_begins, walk_goes, walk_ends, walk_stops}
use Rattle.entries.proofs.Passings.{Passes, AllPass, none_pass, more_pass, first_passes, rest_pass}
use Rattle.entries.proofs.Loading.{swap}

-- All that passes of the items is within an entry where all that passes of those left is.
module _ (how : Passing) (R : Summary) where
  pub record SamePass (xs rest : List Holding) : Type 0 where
    pub back : AllPass how R rest → AllPass how R xs
    pub forth : AllPass how R xs → AllPass how R rest

  module _ (s : List ℕ) (from : ℕ) where
    module _ (at : ℕ) (h : Walked TemplateHoldings s from at SamePass) where
      pub pass_ends : ((ys : List Holding) → Listed TemplateHoldings s at ys → ys ≡ []) → (xs : List Holding) → Listed TemplateHoldings s from xs → AllPass how R xs
      pass_ends e xs l = (walk_ends TemplateHoldings s from at SamePass h e xs l).back (none_pass how R)

      module _ (y : Holding) (next : Position) (first : (ys : List Holding) → Listed TemplateHoldings s at ys → First s at TemplateHoldings y next ys) (r : Bool) (d : Decides r (Passes how R y)) where
        pub pass_goes : not r ≡ false → Walked TemplateHoldings s from next.at SamePass
        pass_goes e = walk_goes TemplateHoldings s from at SamePass h y next first SamePass λ xs ys g. record {
          back = λ q. g.back (more_pass how R y ys (decided_true r d (not-false r e)) q);
          forth = λ q. rest_pass how R y ys (g.forth q);
        }

        pub pass_fails : not r ≡ true → (xs : List Holding) → Listed TemplateHoldings s from xs → AllPass how R xs → ⊥
        pass_fails e = walk_stops TemplateHoldings s from at SamePass h y next first (λ xs. AllPass how R xs → ⊥)
            λ xs ys g q. decided_false r d (not-true r e) (first_passes how R y ys (g.forth q))

-- What is said is gathered, or is left.
module _ {A B : Type 0} (says : Holding → A → Bool) (of : B → A) where
  abbrev pub Gathered : (B → Bool) → List Holding → List Holding → Type 0
  Gathered found xs rest = (b : B) → held says xs (of b) ≡ (found b || held says rest (of b))

  module _ (x : Context) (s : List ℕ) (from : ℕ) where
    pub gather_begins : (found : B → Bool) → ((b : B) → found b ≡ false) → Walked x s from from (Gathered found)
    gather_begins found e = walk_begins x s from (Gathered found) λ xs b. rw (e b)

    module _ (at : ℕ) (found : B → Bool) (h : Walked x s from at (Gathered found)) where
      pub gather_ends : ((ys : List Holding) → Listed x s at ys → ys ≡ []) → (xs : List Holding) → Listed x s from xs → (b : B) → held says xs (of b) ≡ found b
      unfolding held
      gather_ends e xs l b = walk_ends x s from at (Gathered found) h e xs l b ∙ or-false (found b)

      pub gather_goes : (y : Holding) (next : Position) → ((ys : List Holding) → Listed x s at ys → First s at x y next ys) → (more : B → Bool) → ((b : B) → more b ≡ (says y (of b) || found b))
          → Walked x s from next.at (Gathered more)
      unfolding held
      gather_goes y next first more e = walk_goes x s from at (Gathered found) h y next first (Gathered more) goes
        where
          goes : (xs ys : List Holding) → Gathered found xs (y ∷ ys) → Gathered more xs ys
          goes xs ys g b = g b ∙ (swap (found b) (says y (of b)) (held says ys (of b)) ∙ rw (e b))

-- The strings.
abbrev pub StringsGathered : Values → List Holding → List Holding → Type 0
StringsGathered values = Gathered says_string (λ (t : ℕ). t) (holds_value values)

module _ (s : List ℕ) (from at : ℕ) (values : Values) (h : Walked StringHoldings s from at (StringsGathered values)) where
  pub gather_string : (r : Option (StringClaim × Position)) → r ≡ string_here s at → (item : StringClaim) (next : Position) → r ≡ Some (item, next)
      → (said more : Values) → ((t : ℕ) → holds_value said t ≡ says_string (string_meaning_of item) t) → ((t : ℕ) → holds_value more t ≡ (holds_value values t || holds_value said t))
      → Walked StringHoldings s from next.at (StringsGathered more)
  gather_string r is item next e said more o m =
      gather_goes says_string (λ t. t) StringHoldings s from at (holds_value values) h (string_meaning_of item) next (first item e) (holds_value more)
      λ t. m t ∙ (or_comm (holds_value values t) (holds_value said t) ∙ rw (o t))
    where
      first : (item : StringClaim) → r ≡ Some (item, next) → (ys : List Holding) → Listed StringHoldings s at ys → First s at StringHoldings (string_meaning_of item) next ys
      first (One u) e ys l = strings_one s at ys l r is u next e
      first Any e ys l = strings_any s at ys l r is next e

-- The roots.
abbrev pub RootsGathered : ℕ → List Holding → List Holding → Type 0
RootsGathered found = Gathered says_claim root (member found)

root_says : (n k : ℕ) → says_claim (claim (root n)) (root k) ≡ eqb k n
root_says n k = alike _ _
    (λ e. let q : root n ≡ root k = says_alone (root n) (root k) e in let q' : k ≡ n = cc in eq-eqb k n q')
    (λ e. rw (eqb-true k n e) (says_itself (root n)))

module _ (item : Claim) (found : ℕ) where
  pub more_root : (n r : ℕ) → item ≡ Root n → ((k : ℕ) → member r k ≡ (eqb k (n % 64) || member found k)) → WithRoot found (meaning_of item) r
  more_root n r e h f k =
      let l : n < 32 = rw e at f in
      let q : n % 64 ≡ n = omega arith in
      rw (e, root_says n k, ← q) (h k)

  pub no_root : ((n : ℕ) → item ≡ Root n → ⊥) → WithRoot found (meaning_of item) found
  unfolding same_code
  no_root not_root = go item not_root
    where
      go : (other : Claim) → ((n : ℕ) → other ≡ Root n → ⊥) → WithRoot found (meaning_of other) found
      go (Root n) not_root f k = absurd (not_root n refl)
      go (Edge n g m) not_root f k = refl
      go (String n h s) not_root f k = refl
      go (AnyString n h) not_root f k = refl
      go (GapFrom g n) not_root f k = refl
      go (AttributeGapFrom h n) not_root f k = refl
