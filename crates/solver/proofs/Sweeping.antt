-- Sweeps: points are visited one after the other, and where no word changes, no variable waits at those that were.
use Prim.Native.Nat.{ℕ, ◌+◌, ◌≤◌, ◌<◌}
use mathlib.Core.Path.{◌≡◌, refl, ◌∙◌}
use mathlib.Core.List.{List}
use mathlib.Core.Logic.{◌⊎◌, inl, inr}
use mathlib.Core.Bool.{Bool, true, false}
use native.Mathlib.Omega.{arith}
use lib.ListN.{length, get_or, set}
use lib.Seq.{get_or-set_same, get_or-set_other}
use lib.Dec.{ltb}
use borrow.Author.Tests.{ltb-true, ltb-false}
use Rattle.pages.specs.Inner.Gaps.{GapsTable}
use Rattle.jobs.specs.Job.{Script}
use Rattle.jobs.specs.Inner.ScriptTables.{ScriptTables}
use Rattle.solver.specs.Inner.Work.{most_points, RisesOr, Settles, Working, NoneWaits, Visited, turned}
use Rattle.solver.proofs.Worklist.{same_or_not, lower}

pub turned_low : (upwards : Bool) (k : ℕ) → k < 32 → turned upwards k < 32
turned_low true k l = l
turned_low false k l = omega arith

turned_back : (upwards : Bool) (q k : ℕ) → q < 32 → turned upwards q ≡ k → q ≡ turned upwards k
turned_back true q k l e = e
turned_back false q k l e = omega arith

-- The points that a sweep visits before a turn.
abbrev pub Earlier : Bool → ℕ → ℕ → Type 0
Earlier upwards turn q = (q < most_points) × (turned upwards q < turn)

module _ (s gaps places : List ℕ) (names : ℕ) where
  -- Points at which no variable waits are left.
  module _ (Point : ℕ → Type 0) (work waiting : List ℕ) (none : (q : ℕ) → Point q → get_or waiting q 0 ≡ 0) where
    pub visited_none : Visited Point s gaps places names work waiting work waiting
    visited_none = record { working = λ points W. W; same_length = refl; rises = inr (refl, go) }
      where
        go : NoneWaits Point waiting waiting
        go q (inl e) = e
        go q (inr at_point) = none q at_point

  -- At another its steps are taken.
  module _ (p : ℕ) (work waiting after waiting' : List ℕ) (waits : get_or waiting p 0 ≡ 0 → ⊥) (S : Settles s work gaps names (get_or places p 0) p waiting after waiting') where
    module _ (points : ℕ) (W : Working s gaps points places names work waiting) where
      point_there : (π : Script) (count : ℕ) (starts : List ℕ) → ScriptTables π s count starts points places names → GapsTable gaps π.templates → p < points
      point_there π count starts T G = go (ltb p points) refl
        where
          go : (t : Bool) → ltb p points ≡ t → p < points
          go true e = ltb-true p points e
          go false e = absurd (waits (W.there π count starts T G p (ltb-false p points e)))

      working_goes : Working s gaps points places names after waiting'
      working_goes = record {
        settling = λ π count starts T G. S.settling π count starts points places T G (point_there π count starts T G) refl (W.settling π count starts T G);
        there = λ π count starts T G q far. S.there π count starts points places T G (point_there π count starts T G) refl q far (W.there π count starts T G q far);
      }

    pub visited_point : p < length waiting → Visited (λ q. q ≡ p) s gaps places names work waiting after waiting'
    visited_point low = record { working = working_goes; same_length = S.same_length; rises = go S.progress }
      where
        cleared : (q : ℕ) → Dec (q ≡ p) → (get_or waiting q 0 ≡ 0) ⊎ (q ≡ p) → get_or (set waiting p 0) q 0 ≡ 0
        cleared q (yes e) h = rw e (get_or-set_same waiting p 0 0 low)
        cleared q (no d) (inl e) = get_or-set_other waiting p q 0 0 d ∙ e
        cleared q (no d) (inr e) = absurd (d e)

        go : RisesOr work after (waiting' ≡ set waiting p 0) → RisesOr work after (NoneWaits (λ q. q ≡ p) waiting waiting')
        go (inl more) = inl more
        go (inr still) = inr (still.0, λ q h. rw still.1 (cleared q (same_or_not q p) h))

  -- Points are visited after others.
  module _ (A B C : ℕ → Type 0) (work waiting middle waiting₁ after waiting' : List ℕ) (all : (q : ℕ) → C q → A q ⊎ B q) where
    visited_both : Visited A s gaps places names work waiting middle waiting₁ → Visited B s gaps places names middle waiting₁ after waiting' → Visited C s gaps places names work waiting after waiting'
    visited_both U U' = record {
      working = λ points W. U'.working points (U.working points W);
      same_length = U'.same_length ∙ U.same_length;
      rises = go U.rises U'.rises;
    }
      where
        both : NoneWaits A waiting waiting₁ → NoneWaits B waiting₁ waiting' → NoneWaits C waiting waiting'
        both f g q (inl e) = g q (inl (f q (inl e)))
        both f g q (inr c) = elim (all q c) [
          | inl a ↦ g q (inl (f q (inr a)))
          | inr b ↦ g q (inr b)
        ]

        go : RisesOr work middle (NoneWaits A waiting waiting₁) → RisesOr middle after (NoneWaits B waiting₁ waiting') → RisesOr work after (NoneWaits C waiting waiting')
        go (inl more) (inl more') = inl (omega arith)
        go (inl more) (inr still) = inl (rw still.0 more)
        go (inr still) (inl more) = inl (rw still.0 at more)
        go (inr still) (inr still') = inr (still'.0 ∙ still.0, both still.1 still'.1)

  module _ (upwards : Bool) where
    pub sweep_begins : (work waiting : List ℕ) → Visited (Earlier upwards 0) s gaps places names work waiting work waiting
    sweep_begins work waiting = visited_none (Earlier upwards 0) work waiting (λ q e. absurd (omega (arith, e.1)))

    pub sweep_goes : (turn : ℕ) → turn < 32 → (work waiting middle waiting₁ after waiting' : List ℕ) → Visited (Earlier upwards turn) s gaps places names work waiting middle waiting₁
        → Visited (λ q. q ≡ turned upwards turn) s gaps places names middle waiting₁ after waiting' → Visited (Earlier upwards (turn + 1)) s gaps places names work waiting after waiting'
    sweep_goes turn low work waiting middle waiting₁ after waiting' = visited_both (Earlier upwards turn) (λ q. q ≡ turned upwards turn) (Earlier upwards (turn + 1)) work waiting middle waiting₁ after waiting' all
      where
        all : (q : ℕ) → Earlier upwards (turn + 1) q → Earlier upwards turn q ⊎ (q ≡ turned upwards turn)
        all q h = go (same_or_not (turned upwards q) turn)
          where
            go : Dec (turned upwards q ≡ turn) → Earlier upwards turn q ⊎ (q ≡ turned upwards turn)
            go (yes e) = inr (turned_back upwards q turn h.0 e)
            go (no d) = inl (h.0, lower (turned upwards q) turn h.1 d)

    pub sweep_ends : (turn : ℕ) → 32 ≤ turn → (work waiting after waiting' : List ℕ) → Visited (Earlier upwards turn) s gaps places names work waiting after waiting'
        → Visited (λ q. q < most_points) s gaps places names work waiting after waiting'
    sweep_ends turn far work waiting after waiting' U =
        visited_both (Earlier upwards turn) (Earlier upwards 0) (λ q. q < most_points) work waiting after waiting' after waiting' (λ q l. inl (l, let low = turned_low upwards q l in omega arith)) U (sweep_begins after waiting')
