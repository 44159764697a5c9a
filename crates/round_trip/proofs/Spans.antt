-- What was read stands in the bytes as it is written: each law of reading exactly says that, where a reading is whole, what it gives,
-- written out, is what stands between its first offset and its end, and is in range.
use Prim.Native.Nat.{ℕ, zero, suc, ◌+◌, ◌≤◌, ◌<◌}
use native.Mathlib.Nat.{add_assoc, add-zero}
use native.Mathlib.Numerals.{add-one}
use native.Mathlib.Omega.{arith}
use native.Mathlib.Decide.{dec_le}
use mathlib.Core.Path.{◌≡◌, refl, ap, sym, ◌∙◌}
use mathlib.Core.List.{List, [], ◌∷◌, ◌++◌, append_assoc, append-nil}
use mathlib.Core.Bool.{true, and-eq-true_iff}
use lib.ListN.{length, drop, length-append, drop_of_length-le}
use lib.Seq.{drop-cons}
use lib.Dec.{leb}
use borrow.Author.Tests.{leb-true, ltb-true, eqb-false, not-true}
use Rattle.commands.specs.declared.Context.{Context}
use Rattle.commands.specs.Commands.{Operand, element, attribute, content, gap, string, variable, entry, template, point, strings_set, strings, width, byte, set_at, in_range, all_in_range, operands_of, operand_bytes}
use Rattle.commands.specs.Reading.{Read, whole}
use Rattle.vocabularies.specs.VocabularyReading.{alone}
use Rattle.agreement.proofs.Readings.{Gives, given, gives_all, Taken}
use Rattle.round_trip.specs.InRange.{Bytes}
use Rattle.round_trip.specs.Exact.{Span, Exactly}

module _ {s : List ℕ} where
  pub nothing : (at : ℕ) → Span s at [] at
  nothing at = record { is = refl; ends = omega arith }

  -- One part and then another.
  pub then : {at m end : ℕ} {u v : List ℕ} → Span s at u m → Span s m v end → Span s at (u ++ v) end
  then {u} {v} p q = record { is = p.is ∙ ap (u ++◌) q.is ∙ sym (append_assoc u v _); ends = omega (arith, p.ends, q.ends, length-append u v) }

  -- The byte at an offset.
  pub at_byte : (at code : ℕ) → at < length s → byte s at ≡ code → Span s at (code ∷ []) (at + 1)
  at_byte at code h e = record { is = rw (add-one, ← e) (drop-cons s at 0 h); ends = omega arith }

-- What stands in bytes is bytes.
dropped : (n : ℕ) (s : List ℕ) → Bytes s → Bytes (drop n s)
unfolding Bytes
dropped zero s b = b
dropped (suc n) [] b = tt
dropped (suc n) (c ∷ s) b = dropped n s b.1

left : (u v : List ℕ) → Bytes (u ++ v) → Bytes u
unfolding Bytes
left [] v b = tt
left (c ∷ u) v b = (b.0, left u v b.1)

pub span_bytes : {s : List ℕ} {at end : ℕ} {w : List ℕ} → Bytes s → Span s at w end → Bytes w
span_bytes {s} {at} {end} {w} b p = left w (drop end s) (rw p.is at (dropped at s b))

-- Bytes that are read alone are those of what was read.
pub alone_written : {A : Type 0} {written : A → List ℕ} {InRange : A → Type 0} (s : List ℕ) {r : Read A} {a : A} {end : ℕ}
    → Gives (Unit {0}) (λ a end. Span s 0 (written a) end × InRange a) r → alone s r ≡ whole a end → Exactly written InRange s a end
alone_written {written} s {r} {a} {end} g e =
    let read = given (gives_all s g) e in
    let is : s ≡ written a = read.2.0.is ∙ rw (drop_of_length-le s read.1) (append-nil (written a)) in
    record { bytes = is; is_in_range = read.2.1; short = read.0; nothing_behind = omega (arith, ap length is, read.2.0.ends) }

-- The n bytes from the i-th behind an offset on.
abbrev pub bytes : List ℕ → ℕ → ℕ → ℕ → List ℕ
bytes s at i zero = []
bytes s at i (suc n) = byte s (at + i) ∷ bytes s at (suc i) n

module _ {s : List ℕ} where
  bytes_span : (at i n : ℕ) → at + i + n ≤ length s → Span s (at + i) (bytes s at i n) (at + i + n)
  bytes_span at i zero h = rw add-zero (nothing (at + i))
  bytes_span at i (suc n) h =
      let next : at + i + 1 ≡ at + suc i = omega arith in
      let ends : at + suc i + n ≡ at + i + suc n = omega arith in
      let first : Span s (at + i) (byte s (at + i) ∷ []) (at + suc i) = rw next at (at_byte {s = s} (at + i) (byte s (at + i)) (omega arith) refl) in
      rw ends at (then first (bytes_span at (suc i) n (omega arith)))

  -- A command that was taken stands there with its operands.
  pub taken_span : {x : Context} {at code next : ℕ} → Taken x s at code next → Span s at (code ∷ bytes s at 1 (operand_bytes code)) next
  taken_span {at} {code} {next} t =
      let first : Span s at (code ∷ []) (at + 1) = at_byte at code (omega arith) (sym t.is) in
      rw t.moves (then first (bytes_span at 1 (operand_bytes code) (omega arith)))

-- What the test of an operand says of it.
abbrev Fits : Operand → List ℕ → ℕ → Type 0
Fits element s i = (1 ≤ byte s i) × (byte s i ≤ 63)
Fits attribute s i = byte s i ≤ 31
Fits content s i = byte s i ≤ 63
Fits gap s i = byte s i ≤ 7
Fits string s i = byte s i < strings
Fits variable s i = byte s i ≤ 3
Fits entry s i = byte s i ≤ 7
Fits template s i = Unit {0}
Fits point s i = Unit {0}
Fits strings_set s i = set_at s i ≡ 0 → ⊥

abbrev pub AllFit : List Operand → List ℕ → ℕ → ℕ → Type 0
AllFit [] s at i = Unit {0}
AllFit (o ∷ os) s at i = Fits o s (at + i) × AllFit os s at (i + width o)

fits : (o : Operand) (s : List ℕ) (i : ℕ) → in_range o s i ≡ true → Fits o s i
unfolding in_range
fits element s i e = let b = (and-eq-true_iff (leb 1 (byte s i)) (leb (byte s i) 63)).0 e in (leb-true _ _ b.0, leb-true _ _ b.1)
fits attribute s i e = leb-true _ _ e
fits content s i e = leb-true _ _ e
fits gap s i e = leb-true _ _ e
fits string s i e = ltb-true _ _ e
fits variable s i e = leb-true _ _ e
fits entry s i e = leb-true _ _ e
fits template s i e = tt
fits point s i e = tt
fits strings_set s i e = eqb-false _ _ (not-true _ e)

all_fit : (os : List Operand) (s : List ℕ) (at i : ℕ) → all_in_range os s (at + i) ≡ true → AllFit os s at i
unfolding all_in_range
all_fit [] s at i e = tt
all_fit (o ∷ os) s at i e =
    let b = (and-eq-true_iff (in_range o s (at + i)) (all_in_range os s (at + i + width o))).0 e in
    (fits o s (at + i) b.0, all_fit os s at (i + width o) (rw add_assoc at b.1))

pub taken_fits : {x : Context} {s : List ℕ} {at code next : ℕ} → Taken x s at code next → AllFit (operands_of code) s at 1
taken_fits {s} {at} {code} t = all_fit (operands_of code) s at 1 t.ranges

-- What follows from each of the numbers from `low` on, of which there are n, follows from one that is among them.
infixr 10 ◌or◌
pub data Each (G : Type 0) (c : ℕ) : ℕ → ℕ → Type 0 where
  done : {low : ℕ} → Each G c low 0
  ◌or◌ : {low n : ℕ} → (c ≡ low → G) → Each G c (suc low) n → Each G c low (suc n)

pub one_of : {G : Type 0} {c low n : ℕ} → Each G c low n → low ≤ c → c < low + n → G
one_of done h l = absurd (omega arith)
one_of {G} {c} (◌or◌ {low = low} {n = n} g gs) h l = here (dec_le c low) (one_of gs)
  where
    here : Dec (c ≤ low) → (suc low ≤ c → c < suc low + n → G) → G
    here (yes q) k = g (omega arith)
    here (no q) k = k (omega arith) (omega arith)
