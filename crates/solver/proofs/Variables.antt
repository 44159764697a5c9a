-- Sets of variables, as `40` numbers them.
use Prim.Native.Nat.{ℕ, zero, suc, ◌+◌, ◌-◌, ◌<◌}
use mathlib.Core.Path.{◌≡◌, refl}
use mathlib.Core.Bool.{Bool, true, false, cond, and-false}
use native.Mathlib.Omega.{arith}
use lib.Dec.{ltb}
use borrow.Author.Tests.{lt-ltb, ltb-true, ltb-false}
use Rattle.sets.specs.Sets.{member}
use Rattle.sets.proofs.Laws.{member_zero}
use Rattle.programs.specs.Program.{Variable, template_variable, string_variable}
use Rattle.programs.specs.Inner.Promises.{IsVariable}
use Rattle.summaries.specs.ProposalReading.{variable_of}
use Rattle.transfers.specs.Inner.Ways.{among}
use Rattle.least_entries.proofs.Monotone.{test_grows}
use Rattle.solver.specs.Inner.Work.{all_variables}

pub among_number : (set v : ℕ) → v < 8 → among set (variable_of v) ≡ member set v
among_number set v low = go (ltb v 4) refl
  where
    go : (t : Bool) → ltb v 4 ≡ t → among set (cond t (template_variable v) (string_variable (v - 4))) ≡ member set v
    go true e = rw e
    go false e =
        let l = ltb-false v 4 e in
        let n : 4 + (v - 4) ≡ v = omega arith in
        rw (lt-ltb (v - 4) 4 (omega arith), n)

pub among_more : (set more : ℕ) → ((k : ℕ) → member set k ≡ true → member more k ≡ true) → (w : Variable) → among set w ≡ true → among more w ≡ true
among_more set more h (template_variable x) = test_grows (ltb x 4) (member set x) (member more x) (h x)
among_more set more h (string_variable y) = test_grows (ltb y 4) (member set (4 + y)) (member more (4 + y)) (h (4 + y))

pub among_none : (w : Variable) → among 0 w ≡ false
among_none (template_variable x) = rw (member_zero x) (and-false (ltb x 4))
among_none (string_variable y) = rw (member_zero (4 + y)) (and-false (ltb y 4))

-- A number below 8.
all_members : (k : ℕ) → k < 8 → member all_variables k ≡ true
unfolding member
all_members zero l = refl
all_members (suc zero) l = refl
all_members (suc (suc zero)) l = refl
all_members (suc (suc (suc zero))) l = refl
all_members (suc (suc (suc (suc zero)))) l = refl
all_members (suc (suc (suc (suc (suc zero))))) l = refl
all_members (suc (suc (suc (suc (suc (suc zero)))))) l = refl
all_members (suc (suc (suc (suc (suc (suc (suc zero))))))) l = refl
all_members (suc (suc (suc (suc (suc (suc (suc (suc k)))))))) l = absurd (omega arith)

pub among_all : (w : Variable) → IsVariable w → among all_variables w ≡ true
among_all (template_variable x) l = rw (lt-ltb x 4 l) (all_members x (omega arith))
among_all (string_variable y) l = rw (lt-ltb y 4 l) (all_members (4 + y) (omega arith))

pub number_there : (v : ℕ) → v < 8 → IsVariable (variable_of v)
number_there v low = go (ltb v 4) refl
  where
    go : (t : Bool) → ltb v 4 ≡ t → IsVariable (cond t (template_variable v) (string_variable (v - 4)))
    go true e = ltb-true v 4 e
    go false e = let l = ltb-false v 4 e in omega arith
