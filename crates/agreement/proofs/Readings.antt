-- What a reading gives, step by step as the definitions of reading are put together: where it is whole, P holds of what was read and of
-- its end; where it ran out of fuel, U holds.
use Prim.Native.Nat.{ℕ, suc, ◌+◌, ◌≤◌, ◌<◌}
use native.Mathlib.Omega.{arith}
use native.Mathlib.Decide.{dec_le}
use mathlib.Core.Path.{◌≡◌, refl}
use mathlib.Core.List.{List}
use mathlib.Core.Bool.{Bool, true, false, ◌||◌}
use lib.ListN.{length, get_or-eq_default}
use lib.Dec.{leb, ltb, eqb}
use borrow.Author.Tests.{ltb-false, leb-true, eqb-true}
use Rattle.verdicts.specs.declared.Form.{Form}
use Rattle.commands.specs.declared.Context.{Context}
use Rattle.commands.specs.declared.Decoded.{Decoded}
use Rattle.commands.specs.declared.Decoded.TheVariants.{Moved, Refused}
use Rattle.commands.specs.Commands.{byte, allowed, operands_of, operand_bytes, all_in_range, command, either}
use Rattle.commands.specs.Reading.{Read, whole, refused, unfinished, and_then, on_decoded, on_command, when}
use Rattle.commands.proofs.Laws.{moved}
use Rattle.vocabularies.specs.VocabularyReading.{alone, most_bytes}

pub data Gives {A : Type 0} (U : Type 0) (P : A → ℕ → Type 0) : Read A → Type 0 where
  gives : {a : A} {end : ℕ} → P a end → Gives U P (whole a end)
  refuses : {f : Form} {at : ℕ} → Gives U P (refused f at)
  runs_out : U → Gives U P unfinished

module _ {A : Type 0} {U : Type 0} {P : A → ℕ → Type 0} where
  -- What holds of a reading that is known to be whole.
  gives_whole : {a : A} {end : ℕ} → Gives U P (whole a end) → P a end
  gives_whole (gives p) = p

  pub given : {r : Read A} {a : A} {end : ℕ} → Gives U P r → r ≡ whole a end → P a end
  given g e = gives_whole (rw e at g)

  -- A reading that runs out only if U holds.
  gives_unfinished : Gives U P unfinished → U
  gives_unfinished (runs_out u) = u

  pub runs : {r : Read A} → Gives U P r → r ≡ unfinished → U
  runs g e = gives_unfinished (rw e at g)

  pub gives_map : {Q : A → ℕ → Type 0} {r : Read A} → ((a : A) (end : ℕ) → P a end → Q a end) → Gives U P r → Gives U Q r
  gives_map h (gives p) = gives (h _ _ p)
  gives_map h refuses = refuses
  gives_map h (runs_out u) = runs_out u

  pub gives_both : {Q : A → ℕ → Type 0} {r : Read A} → Gives U P r → Gives U Q r → Gives U (λ a end. P a end × Q a end) r
  gives_both (gives p) (gives q) = gives (p, q)
  gives_both refuses g = refuses
  gives_both (runs_out u) g = runs_out u

  pub gives_when : (b : Bool) {y n : Unit {0} → Read A} → ((u : Unit {0}) → b ≡ true → Gives U P (y u))
      → ((u : Unit {0}) → b ≡ false → Gives U P (n u)) → Gives U P (when b y n)
  gives_when true h k = h tt refl
  gives_when false h k = k tt refl

module _ {A : Type 0} where
  gives_itself : (r : Read A) → Gives (Unit {0}) (λ a end. r ≡ whole a end) r
  gives_itself (whole a end) = gives refl
  gives_itself (refused f at) = refuses
  gives_itself unfinished = runs_out tt

  -- Of any reading, where nothing is asked.
  pub gives_any : (r : Read A) → Gives (Unit {0}) (λ a end. Unit {0}) r
  gives_any r = gives_map (λ a end e. tt) (gives_itself r)

module _ {A B : Type 0} {U : Type 0} {P : A → ℕ → Type 0} {Q : B → ℕ → Type 0} where
  pub gives_then : {r : Read A} {k : A → ℕ → Read B} → Gives U P r → ((a : A) (next : ℕ) → P a next → Gives U Q (k a next))
      → Gives U Q (and_then r k)
  gives_then (gives p) h = h _ _ p
  gives_then refuses h = refuses
  gives_then (runs_out u) h = runs_out u

-- A command that was taken: it is there, with its operands, and may stand there; they are in range.
pub record Taken (x : Context) (s : List ℕ) (at code next : ℕ) : Type 0 where
  pub is : code ≡ byte s at
  pub moves : next ≡ at + 1 + operand_bytes code
  pub ends : next ≤ length s
  pub may : allowed x code ≡ true
  pub ranges : all_in_range (operands_of code) s (at + 1) ≡ true

module _ {A : Type 0} {U : Type 0} {P : A → ℕ → Type 0} where
  pub gives_command : {k : ℕ → ℕ → Read A} (x : Context) (s : List ℕ) (at : ℕ)
      → ((code next : ℕ) → Taken x s at code next → Gives U P (k code next)) → Gives U P (on_command x s at k)
  gives_command {k} x s at h = decoded (command x s at) refl
    where
      decoded : (d : Decoded) → command x s at ≡ d → Gives U P (on_decoded d k)
      decoded (Moved code next) e =
          let m = moved x s at code next e in
          let is : code ≡ byte s at = m.first in
          h code next.at (record { is = is; moves = rw is m.after; ends = m.inside; may = rw is m.permitted; ranges = rw is m.ranges })
      decoded (Refused f n) e = refuses

-- Of two commands that may stand, the one that is not the other.
pub is_first : (a b c : ℕ) → either a b c ≡ true → eqb c b ≡ false → c ≡ a
is_first a b c e n = eqb-true c a (first (eqb c a) (eqb c b) e n)
  where
    first : (p q : Bool) → (p || q) ≡ true → q ≡ false → p ≡ true
    first true q e n = refl
    first false q e n = cc

pub is_second : (a b c : ℕ) → either a b c ≡ true → eqb c a ≡ false → c ≡ b
is_second a b c e n = eqb-true c b (rw n at e)

-- A byte that is not 0 stands within the bytes.
pub byte_there : (s : List ℕ) (at code : ℕ) → byte s at ≡ suc code → at < length s
byte_there s at code e = within (dec_le (length s) at)
  where
    within : Dec (length s ≤ at) → at < length s
    within (yes h) = absurd (omega (arith, e, get_or-eq_default s 0 h))
    within (no h) = omega arith

module _ {A : Type 0} (s : List ℕ) where
  -- Bytes that are read alone give what they give if they are read whole; they are not too long, and nothing is left.
  pub gives_all : {U : Type 0} {P : A → ℕ → Type 0} {r : Read A} → Gives U P r
      → Gives U (λ a end. (length s ≤ most_bytes) × (length s ≤ end) × P a end) (alone s r)
  gives_all g = gives_when (leb (length s) most_bytes)
      (λ _ h. gives_then g λ a end p. gives_when (ltb end (length s)) (λ _ _. refuses) (λ _ l. gives (leb-true _ _ h, ltb-false _ _ l, p)))
      (λ _ _. refuses)

  pub gives_alone : {U : Type 0} {P : A → ℕ → Type 0} {r : Read A} → Gives U P r → Gives U P (alone s r)
  gives_alone g = gives_map (λ a end p. p.2) (gives_all g)
