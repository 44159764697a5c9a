-- What holds of the command at an offset, and of readings that go on from it.
use Prim.Native.Nat.{ℕ, ◌+◌, ◌≤◌, ◌<◌}
use mathlib.Core.Path.{◌≡◌, refl, sym, ap, ◌∙◌}
use mathlib.Core.List.{List, [], ◌∷◌}
use mathlib.Core.Bool.{Bool, true, false, cond, ◌&&◌}
use native.Mathlib.Omega.{arith}
use lib.ListN.{length, get_or-eq_default}
use lib.Dec.{leb, ltb, eqb}
use borrow.Author.Tests.{leb-true, ltb-true, ltb-false, lt-ltb, le-leb, eqb-true, eqb-false}
use Rattle.sets.proofs.Booleans.{and_left, and_right}
use Rattle.std.specs.Prelude.{Option, Some, None, Err}
use Rattle.verdicts.specs.declared.Form.{Form}
use Rattle.verdicts.specs.declared.Form.TheVariants.{Ended, NotAllowed, OutOfRange}
use Rattle.commands.specs.declared.Context.{Context}
use Rattle.commands.specs.declared.Context.TheVariants.{Formulas}
use Rattle.commands.specs.declared.Position.{Position}
use Rattle.commands.specs.declared.ReadError.{ReadError}
use Rattle.commands.specs.declared.Decoded.{Decoded}
use Rattle.commands.specs.declared.Decoded.TheVariants.{Moved, Refused}
use Rattle.commands.specs.Commands.{Format, formats, lookup, Operand, element, attribute, string, widths, byte, operands_of, operand_bytes, in_range, all_in_range, between, allowed, command}
use Rattle.commands.specs.Inner.Parts.{Single, stepped, part_of, past}
use Rattle.commands.specs.Reading.{Read, whole, refused, unfinished, and_then, on_decoded, on_command, when}

pub byte_past : (s : List ℕ) (at : ℕ) → length s ≤ at → byte s at ≡ 0
byte_past s at h = get_or-eq_default s 0 h

-- A byte passed over: when it is, and what it tells that it was or was not.
module _ (s : List ℕ) (at code : ℕ) where
  pub past_over : (r : Option Position) (next : Position) → r ≡ past s at code → r ≡ Some next → (at < length s) × (byte s at ≡ code) × (next.at ≡ at + 1)
  unfolding past
  past_over r next e o = go (ltb at (length s)) (eqb (byte s at) code) refl refl (sym e ∙ o)
    where
      go : (t u : Bool) → ltb at (length s) ≡ t → eqb (byte s at) code ≡ u → cond {A = Option Position} t (cond {A = Option Position} u (Some (record { at = at + 1 })) None) None ≡ Some next
          → (at < length s) × (byte s at ≡ code) × (next.at ≡ at + 1)
      go true true inside same q = (ltb-true _ _ inside, eqb-true _ _ same, cc)
      go true false inside same q = absurd (let z : ◌≡◌ {A = ℕ} 0 1 = cc in omega arith)
      go false u inside same q = absurd (let z : ◌≡◌ {A = ℕ} 0 1 = cc in omega arith)

  -- No byte that stands past the end is a command's.
  pub past_other : (r : Option Position) → r ≡ past s at code → r ≡ None → (code ≡ 0 → ⊥) → byte s at ≡ code → ⊥
  unfolding past
  past_other r e o some is = go (ltb at (length s)) (eqb (byte s at) code) refl refl (sym e ∙ o)
    where
      go : (t u : Bool) → ltb at (length s) ≡ t → eqb (byte s at) code ≡ u → cond {A = Option Position} t (cond {A = Option Position} u (Some (record { at = at + 1 })) None) None ≡ None → ⊥
      go true true inside same q = let z : ◌≡◌ {A = ℕ} 0 1 = cc in omega arith
      go true false inside same q = eqb-false _ _ same is
      go false u inside same q = some (sym is ∙ byte_past s at (ltb-false _ _ inside))

-- The refusal of a command that was not read.
pub refused_with : (d : Decoded) (e : ReadError) → part_of d ≡ Err e → d ≡ Refused e.form e.at
refused_with (Moved code next) e h = absurd (let z : ◌≡◌ {A = ℕ} 0 1 = cc in omega arith)
refused_with (Refused f n) e h = cc

-- A command that may stand there, is whole and in range is read.
pub moves : (x : Context) (s : List ℕ) (at : ℕ) → at < length s → allowed x (byte s at) ≡ true → at + operand_bytes (byte s at) < length s
    → all_in_range (operands_of (byte s at)) s (at + 1) ≡ true → Moved (byte s at) (record { at = at + 1 + operand_bytes (byte s at) }) ≡ command x s at
unfolding command
moves x s at here a fits r = rw (lt-ltb at (length s) here, a, lt-ltb (at + operand_bytes (byte s at)) (length s) fits, r)

-- A command whose first byte is known is read, where its operands are.
pub moves_as : (x : Context) (s : List ℕ) (at k : ℕ) (os : List Operand) → at < length s → byte s at ≡ k → allowed x k ≡ true → operands_of k ≡ os
    → at + widths os < length s → all_in_range os s (at + 1) ≡ true → Moved k (record { at = at + 1 + widths os }) ≡ command x s at
unfolding operand_bytes
moves_as x s at k os here code may has fits ranges =
    let o : operands_of (byte s at) ≡ os = rw (code, has) in
    let m = moves x s at here (rw code may) (rw o fits) (rw o ranges) in
    rw (← code) (rw o at m)

-- A command with no operand, `23 e` and `24 a s`.
module _ (x : Context) (s : List ℕ) (at : ℕ) (here : at < length s) where
  bare_moves : (k : ℕ) → byte s at ≡ k → allowed x k ≡ true → operands_of k ≡ [] → Moved k (record { at = at + 1 }) ≡ command x s at
  unfolding all_in_range
  bare_moves k code may none =
      let e : at + 1 ≡ at + 1 + 0 = omega arith in
      rw e (moves_as x s at k [] here code may none (omega arith) refl)

  pub text_moves : byte s at ≡ 0x21 → allowed x 0x21 ≡ true → Moved 0x21 (record { at = at + 1 }) ≡ command x s at
  unfolding operands_of
  text_moves code may = bare_moves 0x21 code may refl

  pub blank_moves : byte s at ≡ 0x29 → allowed x 0x29 ≡ true → Moved 0x29 (record { at = at + 1 }) ≡ command x s at
  unfolding operands_of
  blank_moves code may = bare_moves 0x29 code may refl

  pub element_moves : byte s at ≡ 0x23 → allowed x 0x23 ≡ true → at + 2 ≤ length s → between 1 63 (byte s (at + 1)) ≡ true
      → Moved 0x23 (record { at = at + 2 }) ≡ command x s at
  unfolding operands_of all_in_range in_range
  element_moves code may fits range =
      let e : at + 2 ≡ at + 1 + 1 = omega arith in
      rw e (moves_as x s at 0x23 (element ∷ []) here code may refl (omega arith) (rw range))

  pub attribute_moves : byte s at ≡ 0x24 → allowed x 0x24 ≡ true → at + 3 ≤ length s → byte s (at + 1) ≤ 31 → byte s (at + 2) ≤ 63
      → Moved 0x24 (record { at = at + 3 }) ≡ command x s at
  unfolding operands_of all_in_range in_range
  attribute_moves code may fits a b =
      let e : at + 3 ≡ at + 1 + 2 = omega arith in
      let z : at + 1 + 1 ≡ at + 2 = omega arith in
      rw e (moves_as x s at 0x24 (attribute ∷ string ∷ []) here code may refl (omega arith) (rw (le-leb _ _ a, z, lt-ltb (byte s (at + 2)) 64 (omega arith))))

-- `10` to `13`.
no_operand : (k : ℕ) → 0x10 ≤ k → k ≤ 0x13 → operands_of k ≡ []
unfolding operands_of
no_operand k low high = go (eqb k 0x10) (eqb k 0x11) (eqb k 0x12) refl refl refl
  where
    go : (a b c : Bool) → eqb k 0x10 ≡ a → eqb k 0x11 ≡ b → eqb k 0x12 ≡ c → operands_of k ≡ []
    go true b c p q r = ap operands_of (eqb-true k 0x10 p)
    go false true c p q r = ap operands_of (eqb-true k 0x11 q)
    go false false true p q r = ap operands_of (eqb-true k 0x12 r)
    go false false false p q r =
        let n₀ = eqb-false k 0x10 p in
        let n₁ = eqb-false k 0x11 q in
        let n₂ = eqb-false k 0x12 r in
        let e : k ≡ 0x13 = omega arith in
        ap operands_of e

pub bare_formula_moves : (s : List ℕ) (at k : ℕ) → at < length s → byte s at ≡ k → 0x10 ≤ k → k ≤ 0x13 → Moved k (record { at = at + 1 }) ≡ command Formulas s at
unfolding allowed
bare_formula_moves s at k here code low high =
    bare_moves Formulas s at here k code (rw (le-leb 0x10 k low, le-leb k 0x17 (omega arith))) (no_operand k low high)

pub single_moves : (x : Context) (s : List ℕ) (at k most : ℕ) → Single x k most → at < length s → byte s at ≡ k → at + 2 ≤ length s → byte s (at + 1) ≤ most
    → Moved k (record { at = at + 2 }) ≡ command x s at
unfolding all_in_range
single_moves x s at k most S here code fits range =
    let w : widths (S.operand ∷ []) ≡ 1 = omega (arith, S.is_byte) in
    let e : at + 2 ≡ at + 1 + widths (S.operand ∷ []) = omega (arith, w) in
    rw e (moves_as x s at k (S.operand ∷ []) here code S.may_stand S.alone (omega (arith, w, fits)) (rw (S.range s (at + 1), le-leb _ _ range)))

-- What a command that was read tells.
pub record MovedOver (x : Context) (s : List ℕ) (at code : ℕ) (next : Position) : Type 0 where
  pub first : code ≡ byte s at
  pub after : next.at ≡ at + 1 + operand_bytes (byte s at)
  pub forward : at < next.at
  pub inside : next.at ≤ length s
  pub permitted : allowed x (byte s at) ≡ true
  pub ranges : all_in_range (operands_of (byte s at)) s (at + 1) ≡ true

record Passed (here a fits r : Bool) (b code : ℕ) (p next : Position) : Type 0 where
  here' : here ≡ true
  a' : a ≡ true
  fits' : fits ≡ true
  r' : r ≡ true
  code' : code ≡ b
  next' : next ≡ p

never : {A : Type 0} (f : Form) (n code : ℕ) (next : Position) → Refused f n ≡ Moved code next → A
never f n code next e = absurd (let z : ◌≡◌ {A = ℕ} 0 1 = cc in omega arith)

passed : (here a fits r : Bool) (n at b code : ℕ) (p next : Position)
    → cond here (cond a (cond fits (cond r (Moved b p) (Refused OutOfRange at)) (Refused Ended at)) (Refused NotAllowed at)) (Refused Ended n) ≡ Moved code next
    → Passed here a fits r b code p next
passed true true true true n at b code p next e = record { here' = refl; a' = refl; fits' = refl; r' = refl; code' = cc; next' = cc }
passed true true true false n at b code p next e = never OutOfRange at code next e
passed true true false r n at b code p next e = never Ended at code next e
passed true false fits r n at b code p next e = never NotAllowed at code next e
passed false a fits r n at b code p next e = never Ended n code next e

pub moved : (x : Context) (s : List ℕ) (at code : ℕ) (next : Position) → command x s at ≡ Moved code next → MovedOver x s at code next
unfolding command
moved x s at code next e =
    let p : Passed (ltb at (length s)) (allowed x (byte s at)) (ltb (at + operand_bytes (byte s at)) (length s)) (all_in_range (operands_of (byte s at)) s (at + 1)) (byte s at) code (record { at = at + 1 + operand_bytes (byte s at) }) next = passed _ _ _ _ (length s) at _ code _ next e in
    let fits : at + operand_bytes (byte s at) < length s = ltb-true _ _ p.fits' in
    let after' : next.at ≡ at + 1 + operand_bytes (byte s at) = rw p.next' in
    record { first = p.code'; after = after'; forward = omega arith; inside = omega arith; permitted = p.a'; ranges = p.r' }

-- No command has more than nine bytes of operands.
abbrev short : List Format → Bool
short [] = true
short (f ∷ fs) = leb (widths f.operands) 9 && short fs

lookup_short : (c : ℕ) (fs : List Format) → short fs ≡ true → widths (lookup c fs) ≤ 9
lookup_short c [] e = omega arith
lookup_short c (f ∷ fs) e = go (eqb c f.code) (leb-true _ _ (and_left (leb (widths f.operands) 9) (short fs) e)) (lookup_short c fs (and_right (leb (widths f.operands) 9) (short fs) e))
  where
    go : (t : Bool) → widths f.operands ≤ 9 → widths (lookup c fs) ≤ 9 → widths (cond t f.operands (lookup c fs)) ≤ 9
    go true h o = h
    go false h o = o

pub few_operands : (c n : ℕ) → n ≡ operand_bytes c → n ≤ 9
unfolding operand_bytes operands_of
few_operands c n e = rw e (lookup_short c formats refl)

-- The command at an offset of bytes that were read.
module _ (s : List ℕ) (at : ℕ) where
  pub record SteppedOver (code : ℕ) (next : Position) : Type 0 where
    pub here : at < length s
    pub first : byte s at ≡ code
    pub after : next.at ≡ at + 1 + operand_bytes code

  pub stepped_over : (d : Decoded) (code : ℕ) (next : Position) → d ≡ stepped s at → d ≡ Moved code next → SteppedOver code next
  unfolding stepped
  stepped_over d code next e m = go (ltb at (length s)) refl (sym e ∙ m)
    where
      go : (t : Bool) → ltb at (length s) ≡ t
          → cond t (Moved (byte s at) (record { at = at + 1 + operand_bytes (byte s at) })) (Refused Ended (length s)) ≡ Moved code next → SteppedOver code next
      go true inside q =
          let c : byte s at ≡ code = cc in
          let n : next ≡ record { at = at + 1 + operand_bytes (byte s at) } = cc in
          record { here = ltb-true _ _ inside; first = c; after = rw (n, c) }
      go false outside q = never Ended (length s) code next q

  pub stepped_refused : (d : Decoded) (f : Form) (n : ℕ) → d ≡ stepped s at → d ≡ Refused f n → length s ≤ at
  unfolding stepped
  stepped_refused d f n e m = go (ltb at (length s)) refl (sym e ∙ m)
    where
      go : (t : Bool) → ltb at (length s) ≡ t
          → cond t (Moved (byte s at) (record { at = at + 1 + operand_bytes (byte s at) })) (Refused Ended (length s)) ≡ Refused f n → length s ≤ at
      go true inside q = never f n (byte s at) _ (sym q)
      go false outside q = ltb-false _ _ outside

-- Readings that come out whole: what went before came out whole too.
module _ {A : Type 0} where
  never_whole : {B : Type 0} (f : Form) (n : ℕ) (a : A) (end : ℕ) → refused f n ≡ whole a end → B
  never_whole f n a end e = absurd (let z : ◌≡◌ {A = ℕ} 0 1 = cc in omega arith)

module _ {A B : Type 0} where
  pub and_then_whole : (r : Read A) (k : A → ℕ → Read B) (b : B) (end : ℕ) → and_then r k ≡ whole b end
      → (a : A) × (next : ℕ) × (r ≡ whole a next) × (k a next ≡ whole b end)
  and_then_whole (whole a next) k b end e = (a, next, refl, e)
  and_then_whole (refused f at) k b end e = never_whole f at b end e
  and_then_whole unfinished k b end e = absurd (let z : ◌≡◌ {A = ℕ} 0 1 = cc in omega arith)

module _ {A : Type 0} where
  pub on_decoded_whole : (d : Decoded) (k : ℕ → ℕ → Read A) (b : A) (end : ℕ) → on_decoded d k ≡ whole b end
      → (code : ℕ) × (next : Position) × (d ≡ Moved code next) × (k code next.at ≡ whole b end)
  on_decoded_whole (Moved code next) k b end e = (code, next, refl, e)
  on_decoded_whole (Refused f at) k b end e = never_whole f at b end e

  pub on_command_whole : (x : Context) (s : List ℕ) (at : ℕ) (k : ℕ → ℕ → Read A) (b : A) (end : ℕ) → on_command x s at k ≡ whole b end
      → (code : ℕ) × (next : Position) × (command x s at ≡ Moved code next) × (k code next.at ≡ whole b end)
  on_command_whole x s at k b end e = on_decoded_whole (command x s at) k b end e

  -- A choice whose second side is a refusal.
  pub when_whole : (t : Bool) (yes' : Unit {0} → Read A) (f : Form) (at : ℕ) (b : A) (end : ℕ) → when t yes' (λ _. refused f at) ≡ whole b end
      → (t ≡ true) × (yes' tt ≡ whole b end)
  when_whole true yes' f at b end e = (refl, e)
  when_whole false yes' f at b end e = never_whole f at b end e
