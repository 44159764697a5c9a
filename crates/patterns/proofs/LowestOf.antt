-- The lowest of wrong elements as code gives them: of two, and of what two searches tell.
use Prim.Native.Nat.{ℕ, zero, suc, ◌+◌, ◌≤◌, ◌<◌}
use native.Mathlib.Omega.{arith}
use native.Mathlib.Decide.{ℕ_discrete}
use mathlib.Core.Path.{◌≡◌, refl, sym, subst, ◌∙◌}
use mathlib.Core.List.{List, [], ◌∷◌}
use mathlib.Core.Bool.{Bool, true, false, cond, false≢true}
use mathlib.Core.Option.{Option, some, none}
use mathlib.Core.Logic.{◌↔◌, ◌⊎◌, inl, inr, ⊎_elim}
use lib.ListN.{length}
use lib.Dec.{leb, ltb}
use borrow.Author.Tests.{le-leb, lt-leb, leb-true, leb-false, ltb-true, ltb-false}
use Rattle.std.specs.Prelude.{None, Some}
use Rattle.sets.specs.Sets.{member}
use Rattle.verdicts.specs.declared.Breach.{Breach}
use Rattle.pages.specs.Items.{Attribute, Item, Items}
use Rattle.pages.specs.Items as Items
use Rattle.pages.specs.RightPages.{SomeElement, SomeElementOf}
use Rattle.programs.specs.Program.{template_at}
use Rattle.judging.specs.Inner.Judgement.{or_first}
use Rattle.agreement.proofs.SomeElements.{some_into, some_then}
use Rattle.patterns.proofs.Standing.{some_either}
use Rattle.patterns.specs.declared.Wrong.{Wrong}
use Rattle.patterns.specs.Inner.LowestWrong.{MaybeWrong, At, lower_wrong, wrong_at, Test, lowest_in, lowest_of, lowest_below, LowestWrong, lowest, Passing}

-- What is said of wrong elements, by template, offset and breach.
abbrev Wrongs : Type 1
Wrongs = ℕ → ℕ → Breach → Type 0

-- ---- of two searches

pub lowest_iff : {P Q : Wrongs} {w : MaybeWrong} → ((n at : ℕ) (b : Breach) → P n at b ↔ Q n at b) → LowestWrong P w → LowestWrong Q w
lowest_iff h (LowestWrong.nowhere k) = LowestWrong.nowhere (λ n at b q. k n at b ((h n at b).1 q))
lowest_iff h (lowest {n = n} {at = at} {b = b} p k) = lowest {n = n} {at = at} {b = b} ((h n at b).0 p) (λ m other c q. k m other c ((h m other c).1 q))

pub lowest_none : {P : Wrongs} → ((n at : ℕ) (b : Breach) → P n at b → ⊥) → LowestWrong P None
lowest_none = LowestWrong.nowhere

-- What is found lower in two searches is lowest in R, where R tells of an element what the first search does, and what the second does
-- where the first tells nothing at that offset or below.
pub lowest_both : {P Q R : Wrongs} {v w : MaybeWrong} → LowestWrong P v → LowestWrong Q w → ((n at : ℕ) (b : Breach) → P n at b → R n at b)
    → ((n at : ℕ) (b : Breach) → Q n at b → ((m : ℕ) (c : Breach) → P m at c → ⊥) → R n at b)
    → ((n at : ℕ) (b : Breach) → R n at b → P n at b ⊎ Q n at b) → LowestWrong R (lower_wrong v w)
lowest_both (LowestWrong.nowhere h) (LowestWrong.nowhere k) first second cases = LowestWrong.nowhere (λ n at b r. ⊎_elim (h n at b) (k n at b) (cases n at b r))
lowest_both (LowestWrong.nowhere h) (lowest {n = n} {at = at} {b = b} q k) first second cases =
    lowest {n = n} {at = at} {b = b} (second n at b q (λ m c. h m at c)) (λ m other c r. ⊎_elim (λ p. absurd (h m other c p)) (k m other c) (cases m other c r))
lowest_both (lowest {n = n} {at = at} {b = b} p h) (LowestWrong.nowhere k) first second cases =
    lowest {n = n} {at = at} {b = b} (first n at b p) (λ m other c r. ⊎_elim (h m other c) (λ q. absurd (k m other c q)) (cases m other c r))
lowest_both {R = R} (lowest {n = n} {at = at} {b = b} p h) (lowest {n = m} {at = other} {b = c} q k) first second cases = go (leb at other) refl
  where
    go : (t : Bool) → leb at other ≡ t → LowestWrong R (cond t (At n at b) (At m other c))
    go true e = lowest {n = n} {at = at} {b = b} (first n at b p)
        (λ i x d r. ⊎_elim (h i x d) (λ s. let below = k i x d s in let le = leb-true at other e in omega arith) (cases i x d r))
    go false e = lowest {n = m} {at = other} {b = c} (second m other c q (λ i d s. let below = h i other d s in let lt = leb-false at other e in omega arith))
        (λ i x d r. ⊎_elim (λ s. let below = h i x d s in let lt = leb-false at other e in omega arith) (k i x d) (cases i x d r))

pub lowest_lower : {P Q : Wrongs} {v w : MaybeWrong} → LowestWrong P v → LowestWrong Q w → LowestWrong (λ n at b. P n at b ⊎ Q n at b) (lower_wrong v w)
lowest_lower p q = lowest_both p q (λ n at b h. inl h) (λ n at b h none_first. inr h) (λ n at b r. r)

-- ---- laws of the lower of two

pub lower_first : (a b : MaybeWrong) (n at : ℕ) (k : Breach) (m other : ℕ) (l : Breach) → a ≡ At n at k → b ≡ At m other l → at ≤ other → At n at k ≡ lower_wrong a b
lower_first a b n at k m other l p q h = rw (p, q, le-leb at other h) refl

pub lower_nowhere : (w : MaybeWrong) → lower_wrong w None ≡ w
lower_nowhere None = refl
lower_nowhere (Some w) = refl

module _ (u v w : Wrong) where
  lowest_of_lem : (a b : Bool) → leb u.at v.at ≡ a → leb v.at w.at ≡ b
      → lower_wrong (cond a (Some u) (Some v)) (Some w) ≡ lower_wrong (Some u) (cond b (Some v) (Some w))
  lowest_of_lem true true p q = rw (p, le-leb u.at w.at (omega (arith, leb-true u.at v.at p, leb-true v.at w.at q)))
  lowest_of_lem true false p q = refl
  lowest_of_lem false true p q = rw (p, q)
  lowest_of_lem false false p q =
      let h : v.at < u.at = leb-false u.at v.at p in
      let r : w.at < v.at = leb-false v.at w.at q in
      rw (q, lt-leb u.at w.at (omega arith))

pub lower_assoc : (a b c : MaybeWrong) → lower_wrong (lower_wrong a b) c ≡ lower_wrong a (lower_wrong b c)
lower_assoc None b c = refl
lower_assoc (Some u) None c = refl
lower_assoc (Some u) (Some v) None = lower_nowhere (cond (leb u.at v.at) (Some u) (Some v))
lower_assoc (Some u) (Some v) (Some w) = lowest_of_lem u v w (leb u.at v.at) (leb v.at w.at) refl refl

-- ---- what is told of what is found

pub lowest_nowhere : {P : Wrongs} {w : MaybeWrong} → LowestWrong P w → ((n at : ℕ) (b : Breach) → P n at b → ⊥) → w ≡ None
lowest_nowhere (LowestWrong.nowhere h) k = refl
lowest_nowhere (lowest {n = n} {at = at} {b = b} p h) k = absurd (k n at b p)

pub none_found : {P : Wrongs} → LowestWrong P None → (n at : ℕ) (b : Breach) → P n at b → ⊥
none_found (LowestWrong.nowhere h) = h

-- ---- elements of which a test tells something

-- An element at an offset of items of template n.
abbrev pub Here : ℕ → Test → Items → Wrongs
Here n test φ m at b = (m ≡ n) × SomeElement (λ e mark δ χ. (mark ≡ at) × (test e mark δ χ ≡ some b)) φ

abbrev HereIn : ℕ → Test → Item → Wrongs
HereIn n test i m at b = (m ≡ n) × SomeElementOf (λ e mark δ χ. (mark ≡ at) × (test e mark δ χ ≡ some b)) i

lowest_test : (n mark : ℕ) (o : Option Breach) → LowestWrong (λ m at b. (m ≡ n) × ((mark ≡ at) × (o ≡ some b))) (wrong_at n mark o)
lowest_test n mark none = lowest_none (λ m at b h. let z : ◌≡◌ {A = ℕ} 0 1 = cc h.1.1 in omega arith)
lowest_test n mark (some b) = lowest {n = n} {at = mark} {b = b} (refl, (refl, refl)) (λ m at c h. let e = h.1.0 in omega arith)

module _ (n : ℕ) (test : Test) where
  mutual
    unfolding lowest_in SomeElement

    pub lowest_in_lem : (φ : Items) → LowestWrong (Here n test φ) (lowest_in n test φ)
    lowest_in_lem Items.none = lowest_none (λ m at b h. h.1)
    lowest_in_lem (Items.more i φ) =
        lowest_iff (λ m at b. (⊎_elim (λ h. (h.0, inl h.1)) (λ h. (h.0, inr h.1)), λ h. ⊎_elim (λ p. inl (h.0, p)) (λ p. inr (h.0, p)) h.1))
        (lowest_lower (lowest_of_item i) (lowest_in_lem φ))

    lowest_of_item : (i : Item) → LowestWrong (HereIn n test i) (lowest_of n test i)
    lowest_of_item Items.text = lowest_none (λ m at b h. h.1)
    lowest_of_item Items.blank = lowest_none (λ m at b h. h.1)
    lowest_of_item (Items.gap g) = lowest_none (λ m at b h. h.1)
    lowest_of_item (Items.element e mark δ φ) =
        lowest_iff (λ m at b. (⊎_elim (λ h. (h.0, inl h.1)) (λ h. (h.0, inr h.1)), λ h. ⊎_elim (λ p. inl (h.0, p)) (λ p. inr (h.0, p)) h.1))
        (lowest_lower (lowest_test n mark (test e mark δ φ)) (lowest_in_lem φ))

-- The lowest over a range.
pub lowest_over_lem : (N : ℕ) (P : ℕ → Wrongs) (f : ℕ → MaybeWrong) → ((i : ℕ) → i < N → LowestWrong (P i) (f i))
    → LowestWrong (λ n at b. (i : ℕ) × (i < N) × P i n at b) (lowest_below N f)
unfolding lowest_below
lowest_over_lem zero P f each = lowest_none (λ n at b h. let lt = h.1 in omega arith)
lowest_over_lem (suc N) P f each =
    lowest_iff (λ n at b. (
      ⊎_elim (λ h. (h.0, let lt = h.1 in omega arith, h.2)) (λ h. (N, omega arith, h)),
      λ h. last n at b h,
    ))
    (lowest_lower (lowest_over_lem N P f (λ i h. each i (omega arith))) (each N (omega arith)))
  where
    last : (n at : ℕ) (b : Breach) → (i : ℕ) × (i < suc N) × P i n at b → ((i : ℕ) × (i < N) × P i n at b) ⊎ P N n at b
    last n at b (i, h, p) = go (ℕ_discrete i N)
      where
        go : Dec (i ≡ N) → ((i : ℕ) × (i < N) × P i n at b) ⊎ P N n at b
        go (yes e) = inr (subst (λ (j : ℕ). P j n at b) e p)
        go (no ne) = inl (i, omega arith, p)

-- ---- template by template

first_template : (φs : List Items) → template_at φs 0 ≡ Items.none
unfolding template_at
first_template [] = refl
first_template (φ ∷ φs) = refl

module _ (φs : List Items) (chosen : ℕ) (test : ℕ → Test) where
  -- The templates below t have been looked at.
  abbrev pub Below : ℕ → Wrongs
  Below t n at b = (n < t) × Passing φs chosen test n at b

  none_in_first : (at : ℕ) (b : Breach) → Passing φs chosen test 0 at b → ⊥
  unfolding SomeElement
  none_in_first at b (l, c, e) = subst (SomeElement (λ e mark δ φ. (mark ≡ at) × (test 0 e mark δ φ ≡ some b))) (first_template φs) e

  pub looked_none : LowestWrong (Below 1) None
  looked_none = lowest_none (λ n at b (l, p). none_in_first at b (let first : n ≡ 0 = omega arith in subst (λ (k : ℕ). Passing φs chosen test k at b) first p))

  -- One template more, which is a chosen one or not.
  module _ (t : ℕ) where
    pub looked_past : member chosen t ≡ false → (w : MaybeWrong) → LowestWrong (Below t) w → LowestWrong (Below (t + 1)) w
    looked_past absent w = lowest_iff (λ n at b. (λ (l, p). (omega arith, p), back n at b))
      where
        back : (n at : ℕ) (b : Breach) → Below (t + 1) n at b → Below t n at b
        back n at b (l, p) = go (ℕ_discrete n t)
          where
            go : Dec (n ≡ t) → Below t n at b
            go (yes e) = absurd (false≢true (sym absent ∙ subst (λ (k : ℕ). member chosen k ≡ true) e p.1))
            go (no ne) = (omega arith, p)

    module _ (is_chosen : member chosen t ≡ true) (there : t ≤ length φs) where
      pub looked_more : (w own : MaybeWrong) → own ≡ lowest_in t (test t) (template_at φs t) → LowestWrong (Below t) w
          → LowestWrong (Below (t + 1)) (lower_wrong w own)
      looked_more w own is before =
          rw is (lowest_iff (λ n at b. (to n at b, back n at b)) (lowest_lower before (lowest_in_lem t (test t) (template_at φs t))))
        where
          to : (n at : ℕ) (b : Breach) → Below t n at b ⊎ Here t (test t) (template_at φs t) n at b → Below (t + 1) n at b
          to n at b (inl (l, p)) = (omega arith, p)
          to n at b (inr (e, p)) = subst (λ (k : ℕ). Below (t + 1) k at b) (sym e) (omega arith, (there, is_chosen, p))

          back : (n at : ℕ) (b : Breach) → Below (t + 1) n at b → Below t n at b ⊎ Here t (test t) (template_at φs t) n at b
          back n at b (l, p) = go (ℕ_discrete n t)
            where
              go : Dec (n ≡ t) → Below t n at b ⊎ Here t (test t) (template_at φs t) n at b
              go (yes e) = inr (e, (subst (λ (k : ℕ). Passing φs chosen test k at b) e p).2)
              go (no ne) = inl (omega arith, p)

  pub looked_all : (t : ℕ) (w : MaybeWrong) → length φs < t → LowestWrong (Below t) w → LowestWrong (Passing φs chosen test) w
  looked_all t w past = lowest_iff (λ n at b. (λ (l, p). p, λ p. (let there = p.0 in omega arith, p)))

-- ---- two tests

-- Of two tests that tell something of one element, the first counts.
first_cases : (o p : Option Breach) (b : Breach) → or_first o p ≡ some b → (o ≡ some b) ⊎ (p ≡ some b)
first_cases none p b e = inr e
first_cases (some c) p b e = inl e

first_left : (o p : Option Breach) (b : Breach) → o ≡ some b → or_first o p ≡ some b
first_left o p b e = rw e

module _ (φs : List Items) (chosen : ℕ) (p q : ℕ → Test) where
  abbrev First : ℕ → Test
  First m e mark δ φ = or_first (p m e mark δ φ) (q m e mark δ φ)

  abbrev As : (ℕ → Test) → ℕ → ℕ → Breach → ℕ → ℕ → List Attribute → Items → Type 0
  As test n at b e mark δ φ = (mark ≡ at) × (test n e mark δ φ ≡ some b)

  second_counts : (o : Option Breach) (r : Option Breach) (b : Breach) → r ≡ some b → ((d : Breach) → o ≡ some d → ⊥) → or_first o r ≡ some b
  second_counts none r b e none_first = e
  second_counts (some d) r b e none_first = absurd (none_first d refl)

  -- An element of which the second test tells something, where the first tells nothing of any at this offset.
  module _ (n at : ℕ) (b : Breach) where
    mutual
      unfolding SomeElement

      only_second : (χ : Items) → SomeElement (As q n at b) χ → ((d : Breach) → SomeElement (As p n at d) χ → ⊥) → SomeElement (As First n at b) χ
      only_second Items.none t k = t
      only_second (Items.more i χ) (inl t) k = inl (only_second_in i t (λ d u. k d (inl u)))
      only_second (Items.more i χ) (inr t) k = inr (only_second χ t (λ d u. k d (inr u)))

      only_second_in : (i : Item) → SomeElementOf (As q n at b) i → ((d : Breach) → SomeElementOf (As p n at d) i → ⊥) → SomeElementOf (As First n at b) i
      only_second_in Items.text t k = t
      only_second_in Items.blank t k = t
      only_second_in (Items.gap g) t k = t
      only_second_in (Items.element e mark δ χ) (inl t) k =
          inl (t.0, second_counts (p n e mark δ χ) (q n e mark δ χ) b t.1 (λ d u. k d (inl (t.0, u))))
      only_second_in (Items.element e mark δ χ) (inr t) k = inr (only_second χ t (λ d u. k d (inr u)))

  -- The lower of what two searches find.
  pub lowest_either : (v w : MaybeWrong) → LowestWrong (Passing φs chosen p) v → LowestWrong (Passing φs chosen q) w
      → LowestWrong (Passing φs chosen (λ m e mark δ φ. or_first (p m e mark δ φ) (q m e mark δ φ))) (lower_wrong v w)
  lowest_either v w found found' = lowest_both found found' first second cases
    where
      first : (n at : ℕ) (b : Breach) → Passing φs chosen p n at b → Passing φs chosen First n at b
      first n at b (l, c, s) = (l, c, some_into (As p n at b) (As First n at b) (λ e mark δ φ h. (h.0, first_left (p n e mark δ φ) (q n e mark δ φ) b h.1)) (template_at φs n) s)

      second : (n at : ℕ) (b : Breach) → Passing φs chosen q n at b → ((m : ℕ) (c : Breach) → Passing φs chosen p m at c → ⊥) → Passing φs chosen First n at b
      second n at b (l, c, s) none_first = (l, c, only_second n at b (template_at φs n) s (λ d t. none_first n d (l, c, t)))

      cases : (n at : ℕ) (b : Breach) → Passing φs chosen First n at b → Passing φs chosen p n at b ⊎ Passing φs chosen q n at b
      cases n at b (l, c, s) = ⊎_elim (λ h. inl (l, c, h)) (λ h. inr (l, c, h))
          (some_either (As p n at b) (As q n at b) (template_at φs n)
          (some_into (As First n at b) (λ e mark δ φ. As p n at b e mark δ φ ⊎ As q n at b e mark δ φ)
          (λ e mark δ φ h. ⊎_elim (λ t. inl (h.0, t)) (λ t. inr (h.0, t)) (first_cases (p n e mark δ φ) (q n e mark δ φ) b h.1)) (template_at φs n) s))

module _ (φs : List Items) (chosen : ℕ) (p q : ℕ → Test) (same : (n e mark : ℕ) (δ : List Attribute) (φ : Items) → p n e mark δ φ ≡ q n e mark δ φ) where
  pub lowest_same : (w : MaybeWrong) → LowestWrong (Passing φs chosen p) w → LowestWrong (Passing φs chosen q) w
  lowest_same w = lowest_iff (λ n at b. (
    λ (l, c, s). (
      l,
      c,
      some_into (λ e mark δ φ. (mark ≡ at) × (p n e mark δ φ ≡ some b)) (λ e mark δ φ. (mark ≡ at) × (q n e mark δ φ ≡ some b))
          (λ e mark δ φ h. (h.0, sym (same n e mark δ φ) ∙ h.1)) (template_at φs n) s,
    ),
    λ (l, c, s). (
      l,
      c,
      some_into (λ e mark δ φ. (mark ≡ at) × (q n e mark δ φ ≡ some b)) (λ e mark δ φ. (mark ≡ at) × (p n e mark δ φ ≡ some b))
          (λ e mark δ φ h. (h.0, same n e mark δ φ ∙ h.1)) (template_at φs n) s,
    ),
  ))

-- A test that tells nothing.
pub lowest_never : (φs : List Items) (chosen : ℕ) (test : ℕ → Test) → ((n e mark : ℕ) (δ : List Attribute) (φ : Items) → test n e mark δ φ ≡ none)
    → LowestWrong (Passing φs chosen test) None
lowest_never φs chosen test never = lowest_none (λ n at b (l, c, s). some_then (λ e mark δ φ. (mark ≡ at) × (test n e mark δ φ ≡ some b))
    (λ e mark δ φ h. let e : ◌≡◌ {A = ℕ} 0 1 = cc (never n e mark δ φ, h.1) in omega arith) (template_at φs n) s)
