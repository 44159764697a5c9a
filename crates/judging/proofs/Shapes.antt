-- What holds of all elements of a shape, whatever their strings and their order are.
use Prim.Native.Nat.{ℕ, suc, ◌+◌, ◌≤◌, ◌<◌}
use mathlib.Core.Path.{◌≡◌, refl, sym, ◌∙◌, subst}
use mathlib.Core.List.{List}
use mathlib.Core.Bool.{Bool, true, false, not, ◌&&◌, false≢true}
use mathlib.Core.Option.{Option, some, none}
use native.Mathlib.Numerals.{add-one}
use native.Mathlib.Omega.{arith}
use lib.ListN.{length, replicate, get_or-replicate}
use lib.Dec.{ltb}
use Rattle.sets.specs.Sets.{member}
use Rattle.commands.specs.Commands.{byte}
use Rattle.verdicts.specs.declared.Breach.{Breach}
use Rattle.verdicts.specs.declared.Breach.TheVariants.{Clause}
use Rattle.judging.specs.declared.Shape.{Shape}
use Rattle.judging.specs.declared.Standing.{Standing}
use Rattle.judging.specs.Inner.Judgement.{Atoms}
use Rattle.judging.specs.Inner.Promises.{first_place, last_place, table_atoms, Holds, Shaped, Decides, FirstFails, NoneFails, Settled, Remembered, unknown}
use Rattle.judging.proofs.Clauses.{past_left, none_left, first_fails, first_holds}

unordered : (x y z : Bool) → (x && y) ≡ false → not (x && (y && z)) ≡ true
unordered false y z e = refl
unordered true false z e = refl
unordered true true z e = absurd (false≢true (sym e))

-- The tables of an element have its shape.
pub table_shaped : (shape : Shape) (strings : List ℕ) (order : List Standing) → Shaped shape (table_atoms shape strings order)
table_shaped shape strings order = record {
  attrs = λ a. refl;
  contents = λ c. refl;
  orders = λ c d e. unordered (member shape.contents c) (member shape.contents d) (ltb (first_place order d) (last_place order c)) e;
  values = λ a m e. rw e;
}

-- ---- clauses

-- The clauses met so far, how many they are, and those of them that all of the shape meet.
pub record Meeting (A : Atoms) (shape : Shape) (v : List ℕ) (from at place settled : ℕ) : Type 0 where
  pub few : place ≤ at
  pub left : (o : Option Breach) → FirstFails A v at place o → FirstFails A v from 0 o
  pub settles : (B : Atoms) → Shaped shape B → NoneFails B v at → NoneFails B v settled

module _ {A : Atoms} {shape : Shape} {v : List ℕ} {from at place settled : ℕ} (M : Meeting A shape v from at place settled) (S : Shaped shape A) where
  pub all_met : Settled v shape at → FirstFails A v from 0 none × Settled v shape settled
  all_met T = (M.left none (T.met A S place), record { met = λ B S'. M.settles B S' (T.met B S') })

  pub none_more : (byte v at ≡ 0x04 → ⊥) → FirstFails A v from 0 none × Settled v shape settled
  none_more other = all_met (record { met = λ B S'. none_left B v at other })

  module _ (code : byte v at ≡ 0x04) {start next : ℕ} {value : Bool} (is : start ≡ at + 1) (H : Holds A v start value next) where
    here : (B : Atoms) → Holds B v start value next → Holds B v (at + 1) value next
    here B = subst (λ (k : ℕ). Holds B v k value next) is

    pub one_fails : value ≡ false → FirstFails A v from 0 (some (Clause place))
    one_fails e = M.left (some (Clause place)) (first_fails A v at value next code (here A H) e place)

    module _ (met : value ≡ true) (onward : at < next) where
      goes_on : (o : Option Breach) → FirstFails A v next (place + 1) o → FirstFails A v from 0 o
      goes_on o h = M.left o (first_holds A v at value next code (here A H) met place o (rw (add-one place) at h))

      -- A clause that is met by this element, and not for its shape alone.
      pub one_more : Meeting A shape v from next (place + 1) next
      one_more = record { few = omega (arith, M.few); left = goes_on; settles = λ B S' h. h }

      -- A clause that is met by all of the shape.
      pub one_settled : {same : Bool} {after : ℕ} → Decides shape v start same after → same ≡ true → Meeting A shape v from next (place + 1) settled
      one_settled D y = record {
        few = omega (arith, M.few);
        left = goes_on;
        settles = λ B S' h. M.settles B S' λ k.
            let all : Holds B v start value next = λ f depth end ψ e. ((H f depth end ψ e).0, (H f depth end ψ e).1 ∙ (D f depth end ψ e).1 y A B S S') in
            first_holds B v at value next code (here B all) met k none (h (suc k));
      }

-- ---- the table of shapes

-- Past the end there are no clauses.
pub end_settled : (v : List ℕ) (shape : Shape) (to : ℕ) → length v ≤ to → Settled v shape to
end_settled v shape to past = record { met = λ B S. past_left B v to past }

-- Before the first element.
pub nothing_remembered : (v : List ℕ) → Remembered v (replicate 64 (record { shape = record { names = 0; contents = 0 }; settled = length v; clauses = 0 }))
nothing_remembered v = record {
  long = refl;
  settled = λ k low. rw (get_or-replicate 64 k (record { shape = record { names = 0; contents = 0 }; settled = length v; clauses = 0 }) unknown low)
      (end_settled v _ (length v) (omega arith));
}
