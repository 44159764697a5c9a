-- What holds of a part that agrees with the definition that reads it.
use Prim.Native.Nat.{ℕ, ◌+◌, ◌-◌, ◌<◌}
use mathlib.Core.Path.{◌≡◌, refl, sym, ◌∙◌}
use mathlib.Core.List.{List}
use mathlib.Core.Bool.{Bool, true, false}
use native.Mathlib.Omega.{arith}
use lib.ListN.{length}
use Rattle.std.specs.Prelude.{Result, Ok, Err}
use Rattle.commands.specs.declared.Context.{Context}
use Rattle.commands.specs.declared.Position.{Position}
use Rattle.commands.specs.declared.Decoded.{Decoded}
use Rattle.commands.specs.declared.Decoded.TheVariants as Decodeds
use Rattle.commands.specs.declared.ReadError.{ReadError}
use Rattle.commands.specs.Commands.{command}
use Rattle.commands.specs.Reading.{Read, whole, refused, unfinished, and_then, when}
use Rattle.commands.specs.Inner.Parts.{Agrees, AgreesAs, AgreesWith, Enough}
use Rattle.commands.proofs.Laws.{moved, MovedOver}

module _ {A : Type 0} (P : A → ℕ → Type 0) where
  pub agrees_whole : (x : Read A) (p : Position) → AgreesAs P x (Ok p) → (a : A) × (x ≡ whole a p.at) × P a p.at
  agrees_whole (whole a end) p h = (a, rw h.0, rw h.0 h.1)
  agrees_whole (refused f at) p h = absurd h
  agrees_whole unfinished p h = absurd h

  pub agrees_refused : (x : Read A) (e : ReadError) → AgreesAs P x (Err e) → x ≡ refused e.form e.at
  agrees_refused (whole a end) e h = absurd h
  agrees_refused (refused f n) e h = rw (h.0, h.1)
  agrees_refused unfinished e h = absurd h

module _ {A B : Type 0} (P : A → B → Type 0) where
  pub agrees_with_whole : (x : Read A) (b : B) (p : Position) → AgreesWith P x (Ok (b, p)) → (a : A) × (x ≡ whole a p.at) × P a b
  agrees_with_whole (whole a end) b p h = (a, rw h.0, h.1)
  agrees_with_whole (refused f at) b p h = absurd h
  agrees_with_whole unfinished b p h = absurd h

  pub agrees_with_refused : (x : Read A) (e : ReadError) → AgreesWith P x (Err e) → x ≡ refused e.form e.at
  agrees_with_refused (whole a end) e h = absurd h
  agrees_with_refused (refused f n) e h = rw (h.0, h.1)
  agrees_with_refused unfinished e h = absurd h

module _ {A B : Type 0} where
  pub and_then_same : (x x' : Read A) (k k' : A → ℕ → Read B) → x ≡ x' → ((a : A) (end : ℕ) → x' ≡ whole a end → k a end ≡ k' a end) → and_then x k ≡ and_then x' k'
  and_then_same x (whole a end) k k' e h = rw e (h a end refl)
  and_then_same x (refused f n) k k' e h = rw e
  and_then_same x unfinished k k' e h = rw e

  -- The last part of a reading: what is made of its tree changes neither its end nor its refusal.
  pub last_agrees : (x : Read A) (k : A → B) (r : Result Position ReadError) → Agrees x r → Agrees (and_then x (λ a end. whole (k a) end)) r
  last_agrees (whole a end) k (Ok p) h = h
  last_agrees (whole a end) k (Err e) h = h
  last_agrees (refused f n) k (Ok p) h = h
  last_agrees (refused f n) k (Err e) h = h
  last_agrees unfinished k r h = h

  pub last_agrees_with : {C : Type 0} (P : A → C → Type 0) (Q : B → C → Type 0) (x : Read A) (k : A → B) (r : Result (C × Position) ReadError)
      → ((a : A) (c : C) → P a c → Q (k a) c) → AgreesWith P x r → AgreesWith Q (and_then x (λ a end. whole (k a) end)) r
  last_agrees_with P Q (whole a end) k (Ok (c, p)) q h = (h.0, q a c h.1)
  last_agrees_with P Q (whole a end) k (Err e) q h = h
  last_agrees_with P Q (refused f n) k (Ok (c, p)) q h = h
  last_agrees_with P Q (refused f n) k (Err e) q h = h
  last_agrees_with P Q unfinished k r q h = h

  pub last_whole : (x : Read A) (k : A → B) (b : B) (end : ℕ) → and_then x (λ a end. whole (k a) end) ≡ whole b end → (a : A) × (x ≡ whole a end) × (b ≡ k a)
  last_whole (whole a next) k b end e = (a, cc, cc)
  last_whole (refused f n) k b end e = absurd (let z : ◌≡◌ {A = ℕ} 0 1 = cc in omega arith)
  last_whole unfinished k b end e = absurd (let z : ◌≡◌ {A = ℕ} 0 1 = cc in omega arith)

-- A fuel that is enough.
unfoldable pub plenty : List ℕ → ℕ → ℕ
plenty s at = (length s - at) + (length s - at) + 2

pub is_plenty : (s : List ℕ) (at : ℕ) → Enough s at (plenty s at)
unfolding plenty
is_plenty s at = omega arith

-- A reading that did not run out of fuel.
abbrev pub Finished : {A : Type 0} → Read A → Type 0
Finished (whole a end) = Unit {0}
Finished (refused f n) = Unit {0}
Finished unfinished = ⊥

module _ {A : Type 0} where
  pub last_finishes : {B : Type 0} (x : Read A) (k : A → B) → Finished x → Finished (and_then x (λ a end. whole (k a) end))
  last_finishes (whole a end) k h = tt
  last_finishes (refused f n) k h = tt
  last_finishes unfinished k h = h

  pub and_then_finishes : {B : Type 0} (x : Read A) (k : A → ℕ → Read B) → Finished x → ((a : A) (end : ℕ) → x ≡ whole a end → Finished (k a end)) → Finished (and_then x k)
  and_then_finishes (whole a end) k h n = n a end refl
  and_then_finishes (refused f m) k h n = tt
  and_then_finishes unfinished k h n = h

  pub when_finishes : (b : Bool) (y n : Unit {0} → Read A) → Finished (y tt) → Finished (n tt) → Finished (when b y n)
  when_finishes true y n h k = h
  when_finishes false y n h k = k

-- Over a command that was read the bytes that are left fall.
module _ (x : Context) (s : List ℕ) (d : Decoded) (at code : ℕ) (next : Position) (c : d ≡ command x s at) (e : d ≡ Decodeds.Moved code next) where
  m : MovedOver x s at code next
  m = moved x s at code next (sym c ∙ e)

  pub command_turns : length s - next.at < length s - at
  command_turns = omega (arith, m)

  pub command_falls : (t : ℕ) → length s - at ≡ t → length s - next.at < t
  command_falls t l = omega (arith, m)
