-- A graph while what is held of a template is added to it: the template is a root, and an origin of each gap passed.
use Prim.Native.Nat.{ℕ, ◌+◌, ◌-◌, ◌≤◌, ◌<◌}
use mathlib.Core.Path.{◌≡◌, refl, sym, ap, ◌∙◌}
use mathlib.Core.List.{List}
use mathlib.Core.Bool.{Bool, true, false, cond, ◌&&◌, ◌||◌, or-false, or_comm, and-false}
use native.Mathlib.Omega.{arith}
use lib.Dec.{eqb, ltb}
use borrow.Author.Tests.{eq-eqb, eqb-true, eqb-false, lt-ltb, le-ltb, ltb-true, ltb-false}
use Rattle.sets.specs.Sets.{member}
use Rattle.pages.specs.Items.{Items}
use Rattle.pages.specs.Inner.Gaps.{GapsAre}
use Rattle.summaries.specs.Proposal.{Claim, root, edge, string, gap_from, attribute_gap_from, claim}
use Rattle.summaries.specs.Summaries.{Summary, same_code, says_claim, fragment}
use Rattle.graphs.specs.Inner.Graphs.{InWords, Keeps, adding}
use Rattle.graphs.proofs.Claims.{says_itself, says_alone}
use Rattle.graphs.proofs.Storing.{keeps_same}
use Rattle.entries.specs.Inner.Entries.{with_origin}
use Rattle.sets.proofs.Booleans.{and_both, and_left, and_right, alike}

-- What is held once the gaps below k are passed.
abbrev pub loaded_to : ℕ → ℕ → ℕ → Summary
loaded_to t gaps k (root m) = eqb m t
loaded_to t gaps k (edge m g n) = false
loaded_to t gaps k (string m h s) = false
loaded_to t gaps k (gap_from g m) = eqb m t && (ltb g k && member gaps g)
loaded_to t gaps k (attribute_gap_from h m) = eqb m t && (ltb (8 + h) k && member gaps (8 + h))

says_root : (t m : ℕ) → says_claim (claim (root t)) (root m) ≡ eqb m t
says_root t m = alike _ _
    (λ e. let q : root t ≡ root m = says_alone (root t) (root m) e in let a : m ≡ t = cc in eq-eqb m t a)
    (λ e. rw (eqb-true m t e) (says_itself (root t)))

says_gap : (k t g m : ℕ) → says_claim (claim (gap_from k t)) (gap_from g m) ≡ (eqb m t && eqb g k)
says_gap k t g m = alike _ _
    (λ e. let q : gap_from k t ≡ gap_from g m = says_alone (gap_from k t) (gap_from g m) e in
    let a : m ≡ t = cc in
    let b : g ≡ k = cc in
    and_both _ _ (eq-eqb m t a) (eq-eqb g k b))
    (λ e. rw (eqb-true m t (and_left _ _ e), eqb-true g k (and_right (eqb m t) _ e)) (says_itself (gap_from k t)))

says_attribute : (k t h m : ℕ) → says_claim (claim (attribute_gap_from k t)) (attribute_gap_from h m) ≡ (eqb m t && eqb h k)
says_attribute k t h m = alike _ _
    (λ e. let q : attribute_gap_from k t ≡ attribute_gap_from h m = says_alone (attribute_gap_from k t) (attribute_gap_from h m) e in
    let a : m ≡ t = cc in
    let b : h ≡ k = cc in
    and_both _ _ (eq-eqb m t a) (eq-eqb h k b))
    (λ e. rw (eqb-true m t (and_left _ _ e), eqb-true h k (and_right (eqb m t) _ e)) (says_itself (attribute_gap_from k t)))

-- An origin of one gap.
module _ (k n gaps : ℕ) (R : Summary) (graph : List ℕ) where
  pub origin_of_gap : member gaps k ≡ true → k < 8 → Keeps graph (adding (claim (gap_from k n)) R) → Keeps graph (with_origin k n gaps R)
  origin_of_gap e l K = keeps_same graph _ _ (λ c w. rw (e, lt-ltb k 8 l)) K

  pub origin_of_attribute : member gaps k ≡ true → 8 ≤ k → Keeps graph (adding (claim (attribute_gap_from (k - 8) n)) R) → Keeps graph (with_origin k n gaps R)
  origin_of_attribute e l K = keeps_same graph _ _ (λ c w. rw (e, le-ltb k 8 l)) K

module _ (t gaps : ℕ) (R : Summary) where
  abbrev pub LoadedTo : ℕ → List ℕ → Type 0
  LoadedTo k graph = Keeps graph (λ c. R c || loaded_to t gaps k c)

  pub loading_begins : (graph : List ℕ) → Keeps graph (adding (claim (root t)) R) → LoadedTo 0 graph
  unfolding same_code
  loading_begins graph K = keeps_same graph _ _ (λ c w. same c) K
    where
      none : (r a b : Bool) → (r || (a && (false && b))) ≡ r
      none r a b = rw (and-false a) (or-false r)

      same : (c : Claim) → (R c || loaded_to t gaps 0 c) ≡ adding (claim (root t)) R c
      same (root m) = or_comm (R (root m)) (eqb m t) ∙ ap (λ (b : Bool). b || R (root m)) (sym (says_root t m))
      same (edge m g n) = or-false _
      same (string m h s) = or-false _
      same (gap_from g m) = rw (le-ltb g 0 (omega arith)) (none (R (gap_from g m)) (eqb m t) (member gaps g))
      same (attribute_gap_from h m) = rw (le-ltb (8 + h) 0 (omega arith)) (none (R (attribute_gap_from h m)) (eqb m t) (member gaps (8 + h)))

  -- One gap more.
  step : (r a m : Bool) (i k : ℕ) → (r || (a && (ltb i (k + 1) && m))) ≡ ((m && (a && eqb i k)) || (r || (a && (ltb i k && m))))
  step r a m i k = go (ltb i k) refl (eqb i k) refl
    where
      out : (r a m : Bool) → (r || (a && (false && m))) ≡ ((m && (a && false)) || (r || (a && (false && m))))
      out r a m = rw (and-false a, and-false m)

      come : (r a m : Bool) → (r || (a && m)) ≡ ((m && (a && true)) || (r || (a && false)))
      come r true true = or_comm r true
      come r true false = refl
      come r false true = refl
      come r false false = refl

      go : (u : Bool) → ltb i k ≡ u → (v : Bool) → eqb i k ≡ v → (r || (a && (ltb i (k + 1) && m))) ≡ ((m && (a && v)) || (r || (a && (u && m))))
      go true e true f = let x = ltb-true i k e in let y = eqb-true i k f in absurd (omega arith)
      go true e false f = let x = ltb-true i k e in rw (lt-ltb i (k + 1) (omega arith), and-false a, and-false m)
      go false e true f = let y = eqb-true i k f in rw (lt-ltb i (k + 1) (omega arith)) (come r a m)
      go false e false f =
          let x = ltb-false i k e in
          let y = eqb-false i k f in
          rw (le-ltb i (k + 1) (omega arith)) (out r a m)

  same_bit : (a : Bool) (i k : ℕ) → (member gaps k && (a && eqb i k)) ≡ (member gaps i && (a && eqb i k))
  same_bit a i k = go (eqb i k) refl
    where
      go : (e : Bool) → eqb i k ≡ e → (member gaps k && (a && e)) ≡ (member gaps i && (a && e))
      go true e = rw (eqb-true i k e)
      go false e = rw (and-false a, and-false (member gaps k), and-false (member gaps i))

  eighth : (h k : ℕ) → 8 ≤ k → eqb h (k - 8) ≡ eqb (8 + h) k
  eighth h k l = alike _ _
      (λ e. let q = eqb-true h (k - 8) e in eq-eqb (8 + h) k (omega arith))
      (λ e. let q = eqb-true (8 + h) k e in eq-eqb h (k - 8) (omega arith))

  -- A gap other than k stays as it was.
  pub loading_goes : (k : ℕ) → k < 16 → (graph after : List ℕ) → LoadedTo k graph → ((S : Summary) → Keeps graph S → Keeps after (with_origin k t gaps S)) → LoadedTo (k + 1) after
  unfolding same_code
  loading_goes k l graph after K adds = keeps_same after _ _ (λ c w. same c w (ltb k 8) refl) (adds _ K)
    where
      unsaid : (m r : Bool) → r ≡ ((m && false) || r)
      unsaid m r = rw (and-false m)

      other : (i : ℕ) → (i ≡ k → ⊥) → ltb i (k + 1) ≡ ltb i k
      other i n = go (ltb i k) refl
        where
          go : (u : Bool) → ltb i k ≡ u → ltb i (k + 1) ≡ u
          go true e = let x = ltb-true i k e in lt-ltb i (k + 1) (omega arith)
          go false e = let x = ltb-false i k e in le-ltb i (k + 1) (omega arith)

      same : (c : Claim) → InWords c → (b : Bool) → ltb k 8 ≡ b
          → (R c || loaded_to t gaps (k + 1) c) ≡ ((member gaps k && says_claim (claim (cond b (gap_from k t) (attribute_gap_from (k - 8) t))) c) || (R c || loaded_to t gaps k c))
      same (root m) w true e = unsaid (member gaps k) _
      same (root m) w false e = unsaid (member gaps k) _
      same (edge m g n) w true e = unsaid (member gaps k) _
      same (edge m g n) w false e = unsaid (member gaps k) _
      same (string m h s) w true e = unsaid (member gaps k) _
      same (string m h s) w false e = unsaid (member gaps k) _
      same (gap_from g m) w true e = rw (says_gap k t g m, same_bit (eqb m t) g k) (step (R (gap_from g m)) (eqb m t) (member gaps g) g k)
      same (gap_from g m) w false e = let x = ltb-false k 8 e in rw (other g (λ q. omega arith)) (unsaid (member gaps k) _)
      same (attribute_gap_from h m) w true e = let x = ltb-true k 8 e in rw (other (8 + h) (λ q. omega arith)) (unsaid (member gaps k) _)
      same (attribute_gap_from h m) w false e =
          rw (says_attribute (k - 8) t h m, eighth h k (ltb-false k 8 e), same_bit (eqb m t) (8 + h) k) (step (R (attribute_gap_from h m)) (eqb m t) (member gaps (8 + h)) (8 + h) k)

  pub loading_ends : (k : ℕ) → 16 ≤ k → (φ : Items) → GapsAre gaps φ → (graph : List ℕ) → LoadedTo k graph → Keeps graph (λ c. R c || fragment t φ c)
  loading_ends k l φ g graph K = keeps_same graph _ _ same K
    where
      same : (c : Claim) → InWords c → (R c || fragment t φ c) ≡ (R c || loaded_to t gaps k c)
      same (root m) w = refl
      same (edge m j n) w = refl
      same (string m h s) w = refl
      same (gap_from j m) w = rw (g.gaps j, lt-ltb j 8 w, lt-ltb j k (omega arith))
      same (attribute_gap_from h m) w = rw (g.attributes h, lt-ltb h 8 w, lt-ltb (8 + h) k (omega arith))
