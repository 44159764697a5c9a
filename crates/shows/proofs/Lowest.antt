-- The lowest root with another page than the root element alone, as code looks for it.
use Prim.Native.Nat.{ℕ, ◌+◌, ◌≤◌, ◌<◌}
use native.Mathlib.Omega.{arith}
use mathlib.Core.Path.{◌≡◌, refl, sym, ◌∙◌}
use mathlib.Core.List.{List, []}
use mathlib.Core.Bool.{Bool, true, false, false≢true}
use Rattle.std.specs.Prelude.{Some, None}
use lib.ListN.{get_or}
use lib.Dec.{eqb, ltb}
use borrow.Author.Tests.{eqb-true, eqb-false, ltb-true, ltb-false}
use Rattle.patterns.specs.Inner.Shows.{nowhere, least}
use Rattle.shows.specs.Inner.Promises.{is_other, LowestRoot}

module _ (roots : ℕ) (classes : List (List ℕ)) where
  -- The templates below n are none such.
  abbrev pub NoneBelow : ℕ → Type 0
  NoneBelow n = (m : ℕ) → m < n → is_other roots (get_or classes m []) m ≡ false

  pub none_more : (n : ℕ) (b : Bool) → b ≡ is_other roots (get_or classes n []) n → b ≡ false → NoneBelow n → NoneBelow (n + 1)
  none_more n b e f h m l = go (eqb m n) refl
    where
      go : (t : Bool) → eqb m n ≡ t → is_other roots (get_or classes m []) m ≡ false
      go true i = rw (eqb-true m n i) (sym e ∙ f)
      go false i = let ne = eqb-false m n i in h m (omega arith)

  pub root_found : (count n : ℕ) (b : Bool) → b ≡ is_other roots (get_or classes n []) n → b ≡ true → n ≤ count → NoneBelow n → LowestRoot roots classes count (Some n)
  root_found count n b e f l h = least {n = n} (l, sym e ∙ f) (λ m q. go m q (ltb m n) refl)
    where
      go : (m : ℕ) → (m ≤ count) × (is_other roots (get_or classes m []) m ≡ true) → (t : Bool) → ltb m n ≡ t → n ≤ m
      go m q true i = absurd (false≢true (sym (h m (ltb-true m n i)) ∙ q.1))
      go m q false i = ltb-false m n i

  pub no_root_found : (count n : ℕ) → count < n → NoneBelow n → LowestRoot roots classes count None
  no_root_found count n l h = nowhere (λ m q. let le = q.0 in false≢true (sym (h m (omega arith)) ∙ q.1))
