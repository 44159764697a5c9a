-- What is read of an item and of a head, from the tests that lead to it; and what it tells that one may stand.
use Prim.Native.Nat.{ℕ, ◌+◌, ◌*◌, ◌≤◌, ◌<◌}
use mathlib.Core.Path.{◌≡◌, refl, sym, ap, ◌∙◌}
use mathlib.Core.List.{List}
use mathlib.Core.Bool.{Bool, true, false, cond, not}
use native.Mathlib.Omega.{arith}
use lib.Dec.{eqb, leb, ltb}
use borrow.Author.Tests.{eq-eqb, ne_eqb, eqb-true, lt-ltb, le-ltb, ltb-true, le-leb, lt-leb, leb-true, not-true, not-false}
use Rattle.verdicts.specs.declared.Form.{Form}
use Rattle.verdicts.specs.declared.Form.TheVariants.{NotRising, Missing}
use Rattle.commands.specs.declared.Context.{Context}
use Rattle.commands.specs.declared.Context.TheVariants.{Heads}
use Rattle.commands.specs.declared.Position.{Position}
use Rattle.commands.specs.declared.Decoded.{Decoded}
use Rattle.commands.specs.declared.Decoded.TheVariants.{Moved, Refused}
use Rattle.commands.specs.Commands.{byte, command}
use Rattle.summaries.specs.ProposalReading.{holding_at, holding_there, rank}
use Rattle.summaries.specs.Inner.Promises.{Ranked, tested_head, head_here}

-- An item with what is tested on it alone, in document 01's order: 8 before 5.
abbrev pub tested_holding : ℕ → List ℕ → ℕ → ℕ → Decoded → Decoded
tested_holding count s least at (Moved code next) =
    cond (holding_there count (holding_at s at code))
    (cond (leb least (rank s at code)) (Moved code next) (Refused NotRising at))
    (Refused Missing at)
tested_holding count s least at (Refused form n) = Refused form n

abbrev pub holding_here : Context → ℕ → List ℕ → ℕ → ℕ → Decoded
holding_here x count s least at = tested_holding count s least at (command x s at)

never_moves : {A : Type 0} (f : Form) (n code : ℕ) (next : Position) → Refused f n ≡ Moved code next → A
never_moves f n code next e = absurd (let z : ◌≡◌ {A = ℕ} 0 1 = cc in omega arith)

module _ (x : Context) (count : ℕ) (s : List ℕ) (least at : ℕ) (d : Decoded) (d_is : d ≡ command x s at) where
  told : tested_holding count s least at d ≡ holding_here x count s least at
  told = rw d_is

  pub holding_refused : (form : Form) (n : ℕ) → d ≡ Refused form n → d ≡ holding_here x count s least at
  holding_refused form n e = (e ∙ sym (ap (tested_holding count s least at) e)) ∙ told

  module _ (code : ℕ) (next : Position) (e : d ≡ Moved code next) (b : Bool) (b_is : b ≡ holding_there count (holding_at s at code)) where
    goes : tested_holding count s least at (Moved code next) ≡ holding_here x count s least at
    goes = sym (ap (tested_holding count s least at) e) ∙ told

    pub holding_missing : not b ≡ true → Refused Missing at ≡ holding_here x count s least at
    holding_missing h = let f : holding_there count (holding_at s at code) ≡ false = sym b_is ∙ not-true b h in sym (rw f) ∙ goes

    module _ (h : not b ≡ false) (r : ℕ) (ranks : Ranked s at code r) where
      there : holding_there count (holding_at s at code) ≡ true
      there = sym b_is ∙ not-false b h

      pub holding_not_rising : r < least → Refused NotRising at ≡ holding_here x count s least at
      holding_not_rising l = let o : leb least (rank s at code) ≡ false = lt-leb _ _ (rw ranks.is at l) in sym (rw (there, o)) ∙ goes

      pub holding_moves : least ≤ r → Moved code next ≡ holding_here x count s least at
      holding_moves l = let o : leb least (rank s at code) ≡ true = le-leb _ _ (rw ranks.is at l) in sym (rw (there, o)) ∙ goes

-- An item that may stand at an offset.
pub record HoldingStands (x : Context) (count : ℕ) (s : List ℕ) (least at code : ℕ) (next : Position) : Type 0 where
  pub read : command x s at ≡ Moved code next
  pub there : holding_there count (holding_at s at code) ≡ true
  pub rises : least ≤ rank s at code

module _ (x : Context) (count : ℕ) (s : List ℕ) (least at : ℕ) where
  by_holding_tests : (code code' : ℕ) (next next' : Position) (b₁ b₂ : Bool) → holding_there count (holding_at s at code) ≡ b₁ → leb least (rank s at code) ≡ b₂
      → cond b₁ (cond b₂ (Moved code next) (Refused NotRising at)) (Refused Missing at) ≡ Moved code' next'
      → command x s at ≡ Moved code next → HoldingStands x count s least at code' next'
  by_holding_tests code code' next next' true true e₁ e₂ e r =
      let q : code ≡ code' = cc in record { read = r ∙ e; there = rw q at e₁; rises = leb-true _ _ (rw q at e₂) }
  by_holding_tests code code' next next' true false e₁ e₂ e r = never_moves _ _ _ _ e
  by_holding_tests code code' next next' false b₂ e₁ e₂ e r = never_moves _ _ _ _ e

  pub holding_stands : (d : Decoded) (code : ℕ) (next : Position) → d ≡ holding_here x count s least at → d ≡ Moved code next → HoldingStands x count s least at code next
  holding_stands d code next d_is e = by_decoded (command x s at) refl (sym d_is ∙ e)
    where
      by_decoded : (d : Decoded) → command x s at ≡ d → tested_holding count s least at d ≡ Moved code next → HoldingStands x count s least at code next
      by_decoded (Moved code' next') r q = by_holding_tests code' code next' next (holding_there count (holding_at s at code')) (leb least (rank s at code')) refl refl q r
      by_decoded (Refused form n) r q = never_moves form n code next q

module _ (points : ℕ) (s : List ℕ) (least at : ℕ) (d : Decoded) (d_is : d ≡ command Heads s at) where
  told_head : tested_head points s least at d ≡ head_here points s least at
  told_head = rw d_is

  pub head_refused : (form : Form) (n : ℕ) → d ≡ Refused form n → d ≡ head_here points s least at
  head_refused form n e = (e ∙ sym (ap (tested_head points s least at) e)) ∙ told_head

  module _ (code : ℕ) (next : Position) (e : d ≡ Moved code next) where
    goes_head : tested_head points s least at (Moved code next) ≡ head_here points s least at
    goes_head = sym (ap (tested_head points s least at) e) ∙ told_head

    pub head_ends : code ≡ 0x4F → Moved code next ≡ head_here points s least at
    head_ends h = sym (rw (eq-eqb code 0x4F h)) ∙ goes_head

    module _ (on : code ≡ 0x4F → ⊥) (p : ℕ) (p_is : p ≡ byte s (at + 1)) where
      pub head_missing : points ≤ p → Refused Missing at ≡ head_here points s least at
      head_missing l = let o : ltb (byte s (at + 1)) points ≡ false = le-ltb _ _ (rw p_is at l) in sym (rw (ne_eqb code 0x4F on, o)) ∙ goes_head

      module _ (l : p < points) (n : ℕ) (n-is : n ≡ byte s (at + 1) * 8 + byte s (at + 2)) where
        there_head : ltb (byte s (at + 1)) points ≡ true
        there_head = lt-ltb _ _ (rw p_is at l)

        pub head_not_rising : n < least → Refused NotRising at ≡ head_here points s least at
        head_not_rising h =
            let o : leb least (byte s (at + 1) * 8 + byte s (at + 2)) ≡ false = lt-leb _ _ (rw n-is at h) in
            sym (rw (ne_eqb code 0x4F on, there_head, o)) ∙ goes_head

        pub head_moves : least ≤ n → Moved code next ≡ head_here points s least at
        head_moves h =
            let o : leb least (byte s (at + 1) * 8 + byte s (at + 2)) ≡ true = le-leb _ _ (rw n-is at h) in
            sym (rw (ne_eqb code 0x4F on, there_head, o)) ∙ goes_head

-- A head that may stand at an offset.
pub record HeadStands (points : ℕ) (s : List ℕ) (least at code : ℕ) (next : Position) : Type 0 where
  pub read : command Heads s at ≡ Moved code next
  pub there : byte s (at + 1) < points
  pub rises : least ≤ byte s (at + 1) * 8 + byte s (at + 2)

module _ (points : ℕ) (s : List ℕ) (least at : ℕ) where
  by_head_tests : (code code' : ℕ) (next next' : Position) (b₁ b₂ b₃ : Bool)
      → eqb code 0x4F ≡ b₁ → ltb (byte s (at + 1)) points ≡ b₂ → leb least (byte s (at + 1) * 8 + byte s (at + 2)) ≡ b₃
      → cond b₁ (Moved code next) (cond b₂ (cond b₃ (Moved code next) (Refused NotRising at)) (Refused Missing at)) ≡ Moved code' next'
      → (code' ≡ 0x4F → ⊥) → command Heads s at ≡ Moved code next → HeadStands points s least at code' next'
  by_head_tests code code' next next' true b₂ b₃ e₁ e₂ e₃ e on r = let q : code ≡ code' = cc in absurd (on (sym q ∙ eqb-true code 0x4F e₁))
  by_head_tests code code' next next' false true true e₁ e₂ e₃ e on r = record { read = r ∙ e; there = ltb-true _ _ e₂; rises = leb-true _ _ e₃ }
  by_head_tests code code' next next' false true false e₁ e₂ e₃ e on r = never_moves _ _ _ _ e
  by_head_tests code code' next next' false false b₃ e₁ e₂ e₃ e on r = never_moves _ _ _ _ e

  pub head_stands : (d : Decoded) (code : ℕ) (next : Position) → d ≡ head_here points s least at → d ≡ Moved code next → (code ≡ 0x4F → ⊥) → HeadStands points s least at code next
  head_stands d code next d_is e on = by_decoded (command Heads s at) refl (sym d_is ∙ e)
    where
      by_decoded : (d : Decoded) → command Heads s at ≡ d → tested_head points s least at d ≡ Moved code next → HeadStands points s least at code next
      by_decoded (Moved code' next') r q =
          by_head_tests code' code next' next (eqb code' 0x4F) (ltb (byte s (at + 1)) points) (leb least (byte s (at + 1) * 8 + byte s (at + 2))) refl refl refl q on r
      by_decoded (Refused form n) r q = never_moves form n code next q
