-- Clauses one after the other: the first that fails.
use Prim.Native.Nat.{ℕ, zero, suc, ◌+◌, ◌≤◌}
use mathlib.Core.Path.{◌≡◌, sym, ◌∙◌, subst}
use mathlib.Core.List.{List}
use mathlib.Core.Bool.{Bool, true, false}
use mathlib.Core.Option.{Option, some, none}
use native.Mathlib.Omega.{arith}
use lib.ListN.{length}
use Rattle.commands.specs.Commands.{byte}
use Rattle.commands.specs.Reading.{whole}
use Rattle.commands.proofs.Laws.{byte_past}
use Rattle.vocabularies.specs.Vocabulary.{Formula}
use Rattle.vocabularies.specs.VocabularyReading.{clauses}
use Rattle.vocabularies.proofs.Laws.{Clausal, no_more, one_more, clauses_formed}
use Rattle.verdicts.specs.declared.Breach.{Breach}
use Rattle.verdicts.specs.declared.Breach.TheVariants.{Clause}
use Rattle.judging.specs.Inner.Judgement.{Atoms, truth_of, first_failing, is_false}
use Rattle.judging.specs.Inner.Promises.{Holds, FirstFails, NoneFails}

module _ (A : Atoms) (v : List ℕ) (at : ℕ) where
  clausal : (f end : ℕ) (ψs : List Formula) → clauses f v at ≡ whole ψs end → (g : ℕ) × Clausal g v at ψs end
  unfolding clauses
  clausal zero end ψs e = absurd (let z : ◌≡◌ {A = ℕ} 0 1 = cc in omega arith)
  clausal (suc f) end ψs e = (f, clauses_formed f v at ψs end e)

  -- No clause is left.
  pub none_left : (byte v at ≡ 0x04 → ⊥) → NoneFails A v at
  unfolding first_failing
  none_left other k f end ψs e = let (g, formed) = clausal f end ψs e in go g formed
    where
      go : (g : ℕ) → Clausal g v at ψs end → none ≡ first_failing (is_false A) k ψs
      go g (no_more n q z) = rw q
      go g (one_more here ψ next rest r l c q) = absurd (other here)

  pub past_left : length v ≤ at → NoneFails A v at
  past_left past = none_left (λ e. let z : byte v at ≡ 0 = byte_past v at past in omega arith)

  module _ (b : Bool) (next : ℕ) (code : byte v at ≡ 0x04) (H : Holds A v (at + 1) b next) where
    -- A clause that is not met is the first that fails; after one that is met the rest tells.
    pub first_fails : b ≡ false → (k : ℕ) → FirstFails A v at k (some (Clause k))
    unfolding first_failing
    first_fails fails k f end ψs e = let (g, formed) = clausal f end ψs e in go g formed
      where
        go : (g : ℕ) → Clausal g v at ψs end → some (Clause k) ≡ first_failing (is_false A) k ψs
        go g (no_more n q z) = absurd (n code)
        go g (one_more here ψ end' rest r l c q) =
            let t : truth_of A ψ ≡ false = sym (H g 0 end' ψ r).1 ∙ fails in
            rw (q, t)

    pub first_holds : b ≡ true → (k : ℕ) (o : Option Breach) → FirstFails A v next (suc k) o → FirstFails A v at k o
    unfolding first_failing
    first_holds met k o rest_fails f end ψs e = let (g, formed) = clausal f end ψs e in go g formed
      where
        go : (g : ℕ) → Clausal g v at ψs end → o ≡ first_failing (is_false A) k ψs
        go g (no_more n q z) = absurd (n code)
        go g (one_more here ψ end' rest r l c q) =
            let h = H g 0 end' ψ r in
            let t : truth_of A ψ ≡ true = sym h.1 ∙ met in
            rw (q, t) (rest_fails g end rest (subst (λ (n : ℕ). clauses g v n ≡ whole rest end) (sym h.0) c))
