-- The laws of the morphisms that the check uses, and words that are the same set.
use Prim.Native.Nat.{ℕ, ◌<◌}
use mathlib.Core.Path.{◌≡◌, refl, sym, ap, ◌∙◌}
use mathlib.Core.List.{List, []}
use mathlib.Core.Bool.{Bool, true, false, false≢true}
use native.Mathlib.Omega.{arith}
use lib.Dec.{eqb, ltb}
use borrow.Author.Tests.{ne_eqb, ltb-true, ltb-false}
use Rattle.patterns.specs.Inner.Morphisms as Morphisms
use Rattle.patterns.specs.Inner.Rounds.{Set, only, product}
use Rattle.sets.proofs.Booleans.{alike}
use Rattle.patterns.proofs.Exact.{in_product, factors}
use Rattle.patterns.proofs.Lawful.{Lawful, clause_lawful, root_lawful}
use Rattle.patterns.proofs.Products.{Monoid, clause_monoid, root_monoid}
use Rattle.pattern_sets.specs.Inner.PatternSets.{holds}
use Rattle.schemes.specs.declared.Scheme.{Scheme}
use Rattle.schemes.specs.Inner.Schemes.{StandsFor, Is}
use Rattle.schemes.proofs.Joining.{empty_pattern}
use Rattle.languages.specs.Inner.Tables.{Used, of_clause, of_root}

pub lawful : {M : Morphisms.Morphism} → Used M → Lawful M
lawful (of_clause ψ) = clause_lawful ψ
lawful (of_root root) = root_lawful root

pub monoid : {M : Morphisms.Morphism} → Used M → Monoid M
monoid (of_clause ψ) = clause_monoid ψ
monoid (of_root root) = root_monoid root

module _ {M : Morphisms.Morphism} where
  pub is_as : (words : List ℕ) (A B : Set) → Is M words A → ((x : ℕ) → x < M.size → A x ≡ B x) → Is M words B
  is_as words A B is same = record { inside = λ x h. is.inside x h ∙ same x h; outside = is.outside }

  -- What words hold lies below the size.
  pub held_below : (words : List ℕ) (A : Set) → Is M words A → (x : ℕ) → holds words x ≡ true → x < M.size
  held_below words A is x h = go (ltb x M.size) refl
    where
      go : (t : Bool) → ltb x M.size ≡ t → x < M.size
      go true e = ltb-true x M.size e
      go false e = absurd (false≢true (sym (is.outside x (ltb-false x M.size e)) ∙ h))

-- The product reads no more of sets than their patterns below the size.
pub product_as : (M : Morphisms.Morphism) (A A' B B' : Set) → ((x : ℕ) → x < M.size → A x ≡ A' x) → ((x : ℕ) → x < M.size → B x ≡ B' x)
    → (z : ℕ) → product M A B z ≡ product M A' B' z
product_as M A A' B B' same_a same_b z = alike (product M A B z) (product M A' B' z)
    (λ e.
    let f = factors M A B z e in
    in_product M A' B' f.first f.second z f.first_below f.second_below
    (sym (same_a f.first f.first_below) ∙ f.in_first_lem) (sym (same_b f.second f.second_below) ∙ f.in_second) f.joined)
    (λ e.
    let f = factors M A' B' z e in
    in_product M A B f.first f.second z f.first_below f.second_below
    (same_a f.first f.first_below ∙ f.in_first_lem) (same_b f.second f.second_below ∙ f.in_second) f.joined)

-- Words that hold one pattern.
pub one_pattern : {M : Morphisms.Morphism} (words : List ℕ) (p : ℕ) → p < M.size → ((y : ℕ) → holds words y ≡ eqb y p) → Is M words (only p)
one_pattern words p h e = record { inside = λ x l. e x; outside = λ x l. e x ∙ ne_eqb x p (λ q. omega arith) }

pub unit_set : {r : Scheme} {M : Morphisms.Morphism} → StandsFor r M → Used M → (words : List ℕ) → ((y : ℕ) → holds words y ≡ eqb y 0) → Is M words (only (M.of []))
unit_set reads used words e =
    let z = empty_pattern reads in
    one_pattern words _ ((lawful used).below []) (λ y. e y ∙ ap (eqb y) (sym z))
