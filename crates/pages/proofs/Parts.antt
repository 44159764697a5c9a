-- What it tells that code agrees with a definition, and how agreement goes on from one part to the next.
use Prim.Native.Nat.{ℕ}
use mathlib.Core.Path.{◌≡◌, refl}
use Rattle.std.specs.Prelude.{Result, Ok, Err}
use Rattle.commands.specs.declared.Position.{Position}
use Rattle.commands.specs.declared.ReadError.{ReadError}
use Rattle.commands.specs.Reading.{Read, whole, refused, unfinished, and_then}
use Rattle.commands.specs.Inner.Parts.{Agrees, AgreesAs, AgreesWith}

module _ {A : Type 0} (P : A → ℕ → Type 0) where
  at_whole : (x : Read A) (p : Position) → AgreesAs P x (Ok p) → (a : A) × (x ≡ whole a p.at) × P a p.at
  at_whole (whole a end) p h = (a, rw h.0, rw h.0 h.1)
  at_whole (refused f at) p h = absurd h
  at_whole unfinished p h = absurd h

  at_refused : (x : Read A) (e : ReadError) → AgreesAs P x (Err e) → x ≡ refused e.form e.at
  at_refused (whole a end) e h = absurd h
  at_refused (refused f n) e h = rw (h.0, h.1)
  at_refused unfinished e h = absurd h

  -- What the definition reads, from what the code reads.
  pub agrees_whole : (x : Read A) (r : Result Position ReadError) (p : Position) → r ≡ Ok p → AgreesAs P x r → (a : A) × (x ≡ whole a p.at) × P a p.at
  agrees_whole x r p e h = at_whole x p (rw e at h)

  pub agrees_refused : (x : Read A) (r : Result Position ReadError) (e : ReadError) → r ≡ Err e → AgreesAs P x r → x ≡ refused e.form e.at
  agrees_refused x r e is h = at_refused x e (rw is at h)

module _ {A B : Type 0} where
  -- A whole that is made of one part.
  pub agrees_made : (P : A → ℕ → Type 0) (Q : B → ℕ → Type 0) (g : A → B) → ((a : A) (end : ℕ) → P a end → Q (g a) end) → (x : Read A) (r : Result Position ReadError)
      → AgreesAs P x r → AgreesAs Q (and_then x (λ a end. whole (g a) end)) r
  agrees_made P Q g says (whole a end) (Ok p) h = (h.0, says a end h.1)
  agrees_made P Q g says (whole a end) (Err e) h = h
  agrees_made P Q g says (refused f at) (Ok p) h = h
  agrees_made P Q g says (refused f at) (Err e) h = h
  agrees_made P Q g says unfinished (Ok p) h = h
  agrees_made P Q g says unfinished (Err e) h = h

  pub agrees_with_made : {C : Type 0} (P : A → C → Type 0) (Q : B → C → Type 0) (g : A → B) → ((a : A) (c : C) → P a c → Q (g a) c)
      → (x : Read A) (r : Result (C × Position) ReadError) → AgreesWith P x r → AgreesWith Q (and_then x (λ a end. whole (g a) end)) r
  agrees_with_made P Q g says (whole a end) (Ok (c, p)) h = (h.0, says a c h.1)
  agrees_with_made P Q g says (whole a end) (Err e) h = h
  agrees_with_made P Q g says (refused f at) (Ok (c, p)) h = h
  agrees_with_made P Q g says (refused f at) (Err e) h = h
  agrees_with_made P Q g says unfinished (Ok (c, p)) h = h
  agrees_with_made P Q g says unfinished (Err e) h = h

  module _ (x : Read A) (first : Result Position ReadError) (agrees : Agrees x first) where
    -- A part that is refused refuses what it is a part of.
    pub refused_first : (Q : B → ℕ → Type 0) (k : A → ℕ → Read B) (e : ReadError) → first ≡ Err e → AgreesAs Q (and_then x k) (Err e)
    refused_first Q k e is = rw (agrees_refused _ x first e is agrees) (refl, refl)

    pub refused_first_with : {C : Type 0} (Q : B → C → Type 0) (k : A → ℕ → Read B) (e : ReadError) → first ≡ Err e → AgreesWith Q (and_then x k) (Err e)
    refused_first_with Q k e is = rw (agrees_refused _ x first e is agrees) (refl, refl)

    -- Reading goes on where a part ends.
    pub whole_first : (Q : B → ℕ → Type 0) (k : A → ℕ → Read B) (p : Position) (r : Result Position ReadError) → first ≡ Ok p
        → ((a : A) → x ≡ whole a p.at → AgreesAs Q (k a p.at) r) → AgreesAs Q (and_then x k) r
    whole_first Q k p r e goes = let w = agrees_whole _ x first p e agrees in rw w.1 (goes w.0 w.1)
