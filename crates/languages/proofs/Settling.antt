-- Rounds grow until one changes nothing. The sets are then those of the first settled round, and exact.
use Prim.Native.Nat.{ℕ, zero, suc, ◌+◌, ◌-◌, ◌%◌, ◌<◌, ◌≤◌}
use mathlib.Core.Path.{◌≡◌, refl, sym, subst, ◌∙◌}
use mathlib.Core.List.{List, [], ◌∷◌}
use mathlib.Core.Bool.{true, false, ◌&&◌, false≢true}
use mathlib.Core.Logic.{inl, inr, ⊎_elim}
use native.Mathlib.Decide.{ℕ_discrete}
use native.Mathlib.Omega.{arith}
use lib.ListN.{length, get_or, replicate}
use lib.Dec.{leb}
use borrow.Author.Tests.{le-leb, leb-true}
use Rattle.std.specs.Prelude.{Option, Some, None}
use Rattle.sets.specs.Sets.{member}
use Rattle.sets.proofs.Laws.{member_zero}
use Rattle.pages.specs.Items.{Items}
use Rattle.summaries.specs.Summaries.{Summary}
use Rattle.patterns.specs.Inner.Morphisms.{Morphism}
use Rattle.patterns.specs.Inner.Rounds.{Sets, iterate, round, rounds, Settled}
use Rattle.patterns.specs.Inner.Exactness.{Exact}
use Rattle.sets.proofs.Booleans.{and_both, and_left, and_right, alike}
use Rattle.patterns.proofs.Members.{members, members_more, members_most}
use Rattle.patterns.proofs.Growing.{round_more}
use Rattle.patterns.proofs.Settling.{iterate_grows}
use Rattle.patterns.proofs.Exact.{exact}
use Rattle.pattern_sets.specs.Inner.PatternSets.{holds}
use Rattle.pattern_sets.proofs.Laws.{holds_empty}
use Rattle.schemes.specs.declared.Scheme.{Scheme}
use Rattle.languages.specs.Inner.Tables.{SetsAre, Lent, Shown}
use Rattle.languages.specs.Inner.Promises.{TargetsTable, OnlyChanged, CameOf, Rounds, Lacks, Grown, Grows, SettlesAt, Settles}
use Rattle.languages.proofs.Uses.{lawful, is_as, held_below}

-- ---- larger sets

module _ (count : ℕ) (before after : List (List ℕ)) where
  -- The sets before a place lie within the next; those that grew are members.
  pub record GrownTo (more n : ℕ) : Type 0 where
    pub grows : (k x : ℕ) → k < n → holds (get_or before k []) x ≡ true → holds (get_or after k []) x ≡ true
    pub others : (k x : ℕ) → k < n → member more k ≡ false → holds (get_or after k []) x ≡ true → holds (get_or before k []) x ≡ true
    pub some : (more ≡ 0 → ⊥) → Lacks count after before

-- ---- the rounds that are left

-- The members of sets, which a round that changes something adds to.
abbrev held_in : ℕ → List (List ℕ) → Sets
held_in count sets n x = leb n count && holds (get_or sets n []) x

unfoldable pub left : ℕ → List (List ℕ) → ℕ
left count sets = 8193 - members 32 256 (held_in count sets)

pub one_left : (count : ℕ) (sets : List (List ℕ)) → 1 ≤ left count sets
unfolding left
one_left count sets = let most = members_most 32 256 (held_in count sets) in omega arith

pub left_most : (count : ℕ) (sets : List (List ℕ)) → left count sets ≤ 8193
unfolding left
left_most count sets = omega arith

pub less_left : (count : ℕ) (before after : List (List ℕ)) (more : ℕ) → (more ≡ 0 → ⊥) → Grows count before after more → left count after < left count before
unfolding left
less_left count before after more ne (inr (z, l)) = absurd (ne z)
less_left count before after more ne (inl w) =
    let most = members_most 32 256 (held_in count after) in
    let l = w.some ne in
    let there = le-leb l.row count l.row_there in
    let larger = members_more 32 256 (held_in count before) (held_in count after) grows l.row l.pattern l.row_low l.pattern_there
    (rw there l.is_not) (rw there l.is_held)
    in
    omega arith
  where
    grows : (n x : ℕ) → n < 32 → x < 256 → held_in count before n x ≡ true → held_in count after n x ≡ true
    grows n x hn hx p =
        let q = and_left (leb n count) (holds (get_or before n []) x) p in
        and_both _ _ q (w.within n x hn (leb-true n count q) (and_right (leb n count) (holds (get_or before n []) x) p))

-- ---- settling

module _ (φs : List Items) (G : Summary) (M : Morphism) where
  -- A round that is settled.
  abbrev Rests : ℕ → Type 0
  Rests t = Settled φs G M (rounds φs G M t)

  -- The sets are those of a round, which changed some sets of the round before it, if there was one. No round before it is settled.
  pub record InRound (sets : List (List ℕ)) (changed : Option ℕ) (number : ℕ) : Type 0 where
    pub are : SetsAre φs M (rounds φs G M number) sets
    pub came : (others : ℕ) → changed ≡ Some others → (last : ℕ) × (number ≡ suc last) × OnlyChanged φs M (rounds φs G M number) (rounds φs G M last) others
    pub earlier : (t : ℕ) → t < number → Rests t → ⊥

pub record SettlingTo (r : Scheme) (s graph starts : List ℕ) (count : ℕ) (sets : List (List ℕ)) (changed : Option ℕ) (number : ℕ) : Type 0 where
  pub bound : number + left count sets ≤ 8193
  pub in_round : (φs : List Items) (G : Summary) (M : Morphism) → Shown r s graph starts φs G M → count ≡ length φs → InRound φs G M sets changed number

same_others : (a b : ℕ) → ◌≡◌ {A = Option ℕ} (Some a) (Some b) → a ≡ b
same_others a b e = cc

never_some : (n : ℕ) → ◌≡◌ {A = Option ℕ} None (Some n) → ⊥
never_some n e = let z : ◌≡◌ {A = ℕ} 0 1 = cc in omega arith

module _ (r : Scheme) (s graph starts : List ℕ) (count : ℕ) where
  pub settling_begins : (sets : List (List ℕ)) → ((n x : ℕ) → holds (get_or sets n []) x ≡ false) → SettlingTo r s graph starts count sets None 0
  unfolding rounds iterate
  settling_begins sets empty = record {
    bound = omega (arith, left_most count sets);
    in_round = λ φs G M shown counted. record {
      are = λ n h. record { inside = λ x l. empty n x; outside = λ x l. empty n x };
      came = λ others q. absurd (never_some others q);
      earlier = λ t h. absurd (omega arith);
    };
  }

  module _ (targets : List ℕ) (table : TargetsTable graph count targets) (sets : List (List ℕ)) (changed : Option ℕ) (number : ℕ)
      (so_far : SettlingTo r s graph starts count sets changed number) (next : List (List ℕ)) (rounded : Rounds r s graph starts targets sets count changed next)
      (more : ℕ) (grows : Grows count sets next more) where
    module _ (φs : List Items) (G : Summary) (M : Morphism) (shown : Shown r s graph starts φs G M) (counted : count ≡ length φs) where
      at : InRound φs G M sets changed number
      at = so_far.in_round φs G M shown counted

      -- The sets of the round before, if there is one.
      before : Sets
      unfolding rounds
      before = rounds φs G M (number - 1)

      after_last : CameOf φs G M (rounds φs G M number) changed sets before
      unfolding before rounds iterate
      after_last others q =
          let (last, number_is, only_changed) = at.came others q in
          let back : number - 1 ≡ last = omega arith in (
            subst (λ (k : ℕ). OnlyChanged φs M (rounds φs G M number) (rounds φs G M k) others) (sym back) only_changed,
            subst (λ (k : ℕ). SetsAre φs M (round φs G M (rounds φs G M k)) sets) (sym back) (subst (λ (k : ℕ). SetsAre φs M (rounds φs G M k) sets) number_is at.are),
          )

      next_are : SetsAre φs M (rounds φs G M (suc number)) next
      unfolding rounds iterate
      next_are = rounded φs G M (rounds φs G M number) before shown table counted at.are after_last

      -- Rounds grow, so nothing is lost.
      not_lost : Lacks count sets next → ⊥
      unfolding rounds iterate
      not_lost l =
          let there : l.row ≤ length φs = let h = l.row_there in omega arith in
          let below = held_below (get_or sets l.row []) _ (at.are l.row there) l.pattern l.is_held in
          let g = iterate_grows (suc (length φs)) M.size (round φs G M) (λ X Y within m y hm hy. round_more φs G M X Y within m y) number l.row l.pattern (omega arith) below
          (sym ((at.are l.row there).inside l.pattern below) ∙ l.is_held)
          in
          false≢true (sym l.is_not ∙ ((next_are l.row there).inside l.pattern below ∙ g))

      grown_is : Grown count sets next more
      grown_is = ⊎_elim (λ (w : Grown count sets next more). w) (λ (w : (more ≡ 0) × Lacks count sets next). absurd (not_lost w.1)) grows

      -- What the round changed.
      only_more : OnlyChanged φs M (rounds φs G M (suc number)) (rounds φs G M number) more
      only_more m x h l c =
          let few = shown.few in
          sym ((next_are m h).inside x l) ∙ (grown_is.others m x (omega arith) (omega arith) c ∙ (at.are m h).inside x l)

      -- A round that changes something follows on none that is settled.
      moved_on : Lacks count next sets → Rests φs G M number → ⊥
      unfolding rounds iterate
      moved_on l rests =
          let there : l.row ≤ length φs = let h = l.row_there in omega arith in
          let below = held_below (get_or next l.row []) _ (next_are l.row there) l.pattern l.is_held in
          false≢true (sym l.is_not ∙ ((at.are l.row there).inside l.pattern below ∙ (sym (rests l.row l.pattern there below)
          ∙ (sym ((next_are l.row there).inside l.pattern below) ∙ l.is_held))))

      goes : (more ≡ 0 → ⊥) → InRound φs G M next (Some more) (number + 1)
      goes ne = subst (InRound φs G M next (Some more)) (let e : suc number ≡ number + 1 = omega arith in e) (record {
        are = next_are;
        came = λ others q. (number, refl, subst (OnlyChanged φs M (rounds φs G M (suc number)) (rounds φs G M number)) (same_others more others q) only_more);
        earlier = λ t h rests. not_before t h rests (ℕ_discrete t number);
      })
        where
          not_before : (t : ℕ) → t < suc number → Rests φs G M t → Dec (t ≡ number) → ⊥
          not_before t h rests (yes q) = moved_on (grown_is.some ne) (subst (Rests φs G M) q rests)
          not_before t h rests (no q) = at.earlier t (omega arith) rests

    -- A round that changed something is followed by another.
    pub settling_goes : (more ≡ 0 → ⊥) → SettlingTo r s graph starts count next (Some more) (number + 1)
    settling_goes ne = record {
      bound = let l = less_left count sets next more ne grows in omega (arith, so_far.bound);
      in_round = λ φs G M shown counted. goes φs G M shown counted ne;
    }

    -- One that changed nothing is the last.
    pub settled_first : more ≡ 0 → Settles r s graph starts count (number + 1) next
    unfolding rounds iterate
    settled_first z φs G M shown counted =
        let a : InRound φs G M sets changed number = so_far.in_round φs G M shown counted in
        let same : (m x : ℕ) → m ≤ length φs → x < M.size → rounds φs G M (suc number) m x ≡ rounds φs G M number m x =
        λ m x h l. only_more φs G M shown counted m x h l (rw z (member_zero m))
        in
        record {
          last = number;
          counts = omega arith;
          most = let one = one_left count sets in omega (arith, so_far.bound);
          are = λ n h. is_as (get_or next n []) (rounds φs G M (suc number) n) (rounds φs G M number n) (next_are φs G M shown counted n h) (λ x l. same n x h l);
          rests = λ n x h l. same n x h l;
          no_earlier = λ t h. a.earlier t h;
        }

-- The sets of a settled round are exact, as callers use them.
pub settled_exact : {r : Scheme} {graph : List ℕ} {φs : List Items} {G : Summary} {M : Morphism} → Lent r graph φs G M → (made : ℕ) (sets : List (List ℕ)) → SettlesAt φs G M made sets
    → (X : Sets) → Exact φs G M X → SetsAre φs M X sets
settled_exact {φs = φs} {G = G} {M = M} lent made sets at X ex n h =
    let t : ℕ = at.last in
    let own = exact φs G lent.bounded M (lawful lent.used) t at.rests in
    is_as (get_or sets n []) (rounds φs G M t n) (X n) (at.are n h)
    (λ x l. alike (rounds φs G M t n x) (X n x) (λ e. (ex n x h).1 ((own n x h).0 e)) (λ e. (own n x h).1 ((ex n x h).0 e)))

-- Rows of zeros are empty.
holds_nothing : (x : ℕ) → holds [] x ≡ false
unfolding holds
holds_nothing x = member_zero (x % 64)

pub no_sets : (k n x : ℕ) → holds (get_or (replicate k (0 ∷ 0 ∷ 0 ∷ 0 ∷ [])) n []) x ≡ false
no_sets zero n x = holds_nothing x
no_sets (suc k) zero x = holds_empty x
no_sets (suc k) (suc n) x = no_sets k n x
