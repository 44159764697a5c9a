-- The sets of the patterns that have a flag, computed for all patterns.
use Prim.Native.Nat.{ℕ, zero, suc, ◌<◌, ◌≤◌}
use mathlib.Core.Path.{◌≡◌, refl, sym, subst, ◌∙◌}
use mathlib.Core.List.{List, [], ◌∷◌}
use mathlib.Core.Bool.{Bool, true, false, not, ◌&&◌}
use mathlib.Core.Logic.{inl, inr}
use native.Mathlib.Nat.{eq-or-lt_of_le, le_of_suc-le-suc}
use native.Mathlib.Omega.{arith}
use lib.Dec.{T}
use Rattle.sets.specs.Sets.{member}
use Rattle.sets.proofs.Laws.{member_high}
use Rattle.pattern_sets.specs.Inner.PatternSets.{holds}
use Rattle.pattern_sets.specs.Inner.Images.{AllFlagged}
use Rattle.pattern_sets.proofs.Laws.{holds_empty}

-- The test passes at every number below n.
abbrev pub all_below : ℕ → (ℕ → Bool) → Bool
all_below zero p = true
all_below (suc n) p = p n && all_below n p

abbrev pub same : Bool → Bool → Bool
same true b = b
same false b = not b

first : (a b : Bool) → T (a && b) → T a
first true b t = tt
first false b t = t

second : (a b : Bool) → T (a && b) → T b
second true b t = t
second false b t = absurd t

pub below : (n : ℕ) (p : ℕ → Bool) → T (all_below n p) → (x : ℕ) → x < n → T (p x)
below zero p t x h = absurd (omega arith)
below (suc n) p t x h = elim (eq-or-lt_of_le (le_of_suc-le-suc h)) [
  | inl e ↦ subst (λ (k : ℕ). T (p k)) (sym e) (first (p n) (all_below n p) t)
  | inr l ↦ below n p (second (p n) (all_below n p) t) x l
]

pub passed : (b : Bool) → T b → b ≡ true
passed true t = refl
passed false t = absurd t

-- The word that has every number.
pub all_members : (k : ℕ) → k < 64 → member 0xFFFF_FFFF_FFFF_FFFF k ≡ true
unfolding member
all_members k h = passed (member 0xFFFF_FFFF_FFFF_FFFF k) (below 64 (member 0xFFFF_FFFF_FFFF_FFFF) tt k h)

agree : (a b : Bool) → T (same a b) → a ≡ b
agree true true t = refl
agree true false t = absurd t
agree false true t = absurd t
agree false false t = refl

pub table : (set : List ℕ) (i : ℕ) → T (all_below 256 (λ x. same (holds set x) (member x i))) → AllFlagged i set
table set i t x h = agree (holds set x) (member x i) (below 256 (λ x. same (holds set x) (member x i)) t x h)

not_small : (i : ℕ) → (i ≡ 0 → ⊥) → (i ≡ 1 → ⊥) → (i ≡ 2 → ⊥) → (i ≡ 3 → ⊥) → (i ≡ 4 → ⊥) → (i ≡ 5 → ⊥) → (i ≡ 6 → ⊥) → (i ≡ 7 → ⊥) → 8 ≤ i
not_small zero n₀ n₁ n₂ n₃ n₄ n₅ n₆ n₇ = absurd (n₀ refl)
not_small (suc zero) n₀ n₁ n₂ n₃ n₄ n₅ n₆ n₇ = absurd (n₁ refl)
not_small (suc (suc zero)) n₀ n₁ n₂ n₃ n₄ n₅ n₆ n₇ = absurd (n₂ refl)
not_small (suc (suc (suc zero))) n₀ n₁ n₂ n₃ n₄ n₅ n₆ n₇ = absurd (n₃ refl)
not_small (suc (suc (suc (suc zero)))) n₀ n₁ n₂ n₃ n₄ n₅ n₆ n₇ = absurd (n₄ refl)
not_small (suc (suc (suc (suc (suc zero))))) n₀ n₁ n₂ n₃ n₄ n₅ n₆ n₇ = absurd (n₅ refl)
not_small (suc (suc (suc (suc (suc (suc zero)))))) n₀ n₁ n₂ n₃ n₄ n₅ n₆ n₇ = absurd (n₆ refl)
not_small (suc (suc (suc (suc (suc (suc (suc zero))))))) n₀ n₁ n₂ n₃ n₄ n₅ n₆ n₇ = absurd (n₇ refl)
not_small (suc (suc (suc (suc (suc (suc (suc (suc i)))))))) n₀ n₁ n₂ n₃ n₄ n₅ n₆ n₇ = omega arith

-- No pattern has a flag past the eighth.
pub none_flagged : (i : ℕ) → (i ≡ 0 → ⊥) → (i ≡ 1 → ⊥) → (i ≡ 2 → ⊥) → (i ≡ 3 → ⊥) → (i ≡ 4 → ⊥) → (i ≡ 5 → ⊥) → (i ≡ 6 → ⊥) → (i ≡ 7 → ⊥)
    → AllFlagged i (0 ∷ 0 ∷ 0 ∷ 0 ∷ [])
none_flagged i n₀ n₁ n₂ n₃ n₄ n₅ n₆ n₇ x h =
    holds_empty x ∙ sym (member_high 8 x i h (not_small i n₀ n₁ n₂ n₃ n₄ n₅ n₆ n₇))
