-- Code that agrees with a reading: what follows of the reading, and of readings made from it.
use Prim.Native.Nat.{ℕ, suc, ◌+◌, ◌-◌, ◌≤◌, ◌<◌}
use mathlib.Core.Path.{◌≡◌, refl, sym, ap, subst, ◌∙◌}
use mathlib.Core.List.{List}
use native.Mathlib.Omega.{arith}
use lib.ListN.{length, get_or, set}
use lib.Seq.{get_or-set_other}
use Rattle.std.specs.Prelude.{Result, Ok, Err}
use Rattle.commands.specs.declared.Context.{Context}
use Rattle.commands.specs.declared.Position.{Position}
use Rattle.commands.specs.declared.ReadError.{ReadError}
use Rattle.commands.specs.declared.Decoded.TheVariants.{Moved}
use Rattle.commands.specs.Commands.{command}
use Rattle.commands.specs.Reading.{Read, whole, refused, unfinished, and_then, enough}
use Rattle.commands.specs.Inner.Parts.{AgreesAs, AgreesWith, Enough}
use Rattle.commands.proofs.Laws.{MovedOver, moved}

-- Code that agrees with a reading agrees with what the reading is made into.
pub agrees_map : {A B : Type 0} (P : A → ℕ → Type 0) (Q : B → ℕ → Type 0) (g : A → B) (r : Read A) (p : Result Position ReadError)
    → ((a : A) (end : ℕ) → P a end → Q (g a) end) → AgreesAs P r p → AgreesAs Q (and_then r λ a end. whole (g a) end) p
agrees_map P Q g (whole a end) (Ok p) h w = (w.0, h a end w.1)
agrees_map P Q g (whole a end) (Err e) h w = w
agrees_map P Q g (refused f n) (Ok p) h w = w
agrees_map P Q g (refused f n) (Err e) h w = w
agrees_map P Q g unfinished p h w = w

pub agrees_with_map : {A B C : Type 0} (P : A → C → Type 0) (Q : B → C → Type 0) (g : A → B) (r : Read A) (p : Result (C × Position) ReadError)
    → ((a : A) (c : C) → P a c → Q (g a) c) → AgreesWith P r p → AgreesWith Q (and_then r λ a end. whole (g a) end) p
agrees_with_map P Q g (whole a end) (Ok (c, p)) h w = (w.0, h a c w.1)
agrees_with_map P Q g (whole a end) (Err e) h w = w
agrees_with_map P Q g (refused f n) (Ok (c, p)) h w = w
agrees_with_map P Q g (refused f n) (Err e) h w = w
agrees_with_map P Q g unfinished p h w = w

module _ {A : Type 0} (P : A → ℕ → Type 0) where
  -- Where the code's part is whole, so is the reading.
  pub record WholeAs (r : Read A) (p : Position) : Type 0 where
    pub tree : A
    pub end : ℕ
    pub reads : r ≡ whole tree end
    pub ends : p.at ≡ end
    pub holds : P tree end

  by_whole : (r : Read A) (p : Position) → AgreesAs P r (Ok p) → WholeAs r p
  by_whole (whole a end) p w = record { tree = a; end = end; reads = refl; ends = w.0; holds = w.1 }
  by_whole (refused f n) p w = absurd w
  by_whole unfinished p w = absurd w

  pub agrees_whole : (r : Read A) (part : Result Position ReadError) (p : Position) → part ≡ Ok p → AgreesAs P r part → WholeAs r p
  agrees_whole r part p e w = by_whole r p (subst (AgreesAs P r) e w)

  pub whole_then : {B : Type 0} (r : Read A) (p : Position) (w : WholeAs r p) (k : A → ℕ → Read B) → and_then r k ≡ k w.tree p.at
  whole_then r p w k = ap (λ (x : Read A). and_then x k) w.reads ∙ ap (k w.tree) (sym w.ends)

  -- Where it is refused, so is the reading, and whatever is read next.
  refuses : (r : Read A) (e : ReadError) → AgreesAs P r (Err e) → r ≡ refused e.form e.at
  refuses (whole a end) e w = absurd w
  refuses (refused f n) e w = rw (w.0, w.1)
  refuses unfinished e w = absurd w

  pub agrees_refuses : (r : Read A) (part : Result Position ReadError) (e : ReadError) → part ≡ Err e → AgreesAs P r part → r ≡ refused e.form e.at
  agrees_refuses r part e is w = refuses r e (subst (AgreesAs P r) is w)

  by_refused : {B : Type 0} (Q : B → ℕ → Type 0) (r : Read A) (k : A → ℕ → Read B) (e : ReadError) → AgreesAs P r (Err e) → AgreesAs Q (and_then r k) (Err e)
  by_refused Q (whole a end) k e w = absurd w
  by_refused Q (refused f n) k e w = w
  by_refused Q unfinished k e w = absurd w

  pub agrees_refused : {B : Type 0} (Q : B → ℕ → Type 0) (r : Read A) (k : A → ℕ → Read B) (part : Result Position ReadError) (e : ReadError)
      → part ≡ Err e → AgreesAs P r part → AgreesAs Q (and_then r k) part
  agrees_refused Q r k part e is w = subst (AgreesAs Q (and_then r k)) (sym is) (by_refused Q r k e (subst (AgreesAs P r) is w))

  pub whole_agrees : (r : Read A) (part : Result Position ReadError) (p : Position) (a : A) (end : ℕ) → r ≡ whole a end → part ≡ Ok p → p.at ≡ end → P a end → AgreesAs P r part
  whole_agrees r part p a end e e' h w = rw (e, e') (h, w)

  pub refused_agrees : (r : Read A) (part : Result Position ReadError) (e : ReadError) → r ≡ refused e.form e.at → part ≡ Err e → AgreesAs P r part
  refused_agrees r part e is is' = rw (is, is') (refl, refl)

-- The same of code that gives a value with the position after the part.
module _ {A C : Type 0} (P : A → C → Type 0) where
  by_whole_with : (r : Read A) (c : C) (p : Position) → AgreesWith P r (Ok (c, p)) → WholeAs (λ a end. P a c) r p
  by_whole_with (whole a end) c p w = record { tree = a; end = end; reads = refl; ends = w.0; holds = w.1 }
  by_whole_with (refused f n) c p w = absurd w
  by_whole_with unfinished c p w = absurd w

  pub agrees_with_whole : (r : Read A) (part : Result (C × Position) ReadError) (c : C) (p : Position) → part ≡ Ok (c, p) → AgreesWith P r part → WholeAs (λ a end. P a c) r p
  agrees_with_whole r part c p e w = by_whole_with r c p (subst (AgreesWith P r) e w)

  refuses_with : (r : Read A) (e : ReadError) → AgreesWith P r (Err e) → r ≡ refused e.form e.at
  refuses_with (whole a end) e w = absurd w
  refuses_with (refused f n) e w = rw (w.0, w.1)
  refuses_with unfinished e w = absurd w

  pub agrees_with_refuses : (r : Read A) (part : Result (C × Position) ReadError) (e : ReadError) → part ≡ Err e → AgreesWith P r part → r ≡ refused e.form e.at
  agrees_with_refuses r part e is w = refuses_with r e (subst (AgreesWith P r) is w)

  by_refused_with : {B D : Type 0} (Q : B → D → Type 0) (r : Read A) (k : A → ℕ → Read B) (e : ReadError) → AgreesWith P r (Err e) → AgreesWith Q (and_then r k) (Err e)
  by_refused_with Q (whole a end) k e w = absurd w
  by_refused_with Q (refused f n) k e w = w
  by_refused_with Q unfinished k e w = absurd w

  pub agrees_with_refused : {B D : Type 0} (Q : B → D → Type 0) (r : Read A) (k : A → ℕ → Read B) (part : Result (C × Position) ReadError) (e : ReadError)
      → part ≡ Err e → AgreesWith P r part → AgreesWith Q (and_then r k) (Err e)
  agrees_with_refused Q r k part e is w = by_refused_with Q r k e (subst (AgreesWith P r) is w)

  pub whole_agrees_with : (r : Read A) (c : C) (p : Position) (a : A) (end : ℕ) → r ≡ whole a end → p.at ≡ end → P a c → AgreesWith P r (Ok (c, p))
  whole_agrees_with r c p a end e h w = rw e (h, w)

  pub refused_agrees_with : (r : Read A) (e : ReadError) → r ≡ refused e.form e.at → AgreesWith P r (Err e)
  refused_agrees_with r e is = rw is (refl, refl)

pub enough_enough : (s : List ℕ) (at : ℕ) → Enough s at (enough s)
enough_enough s at = omega arith

-- After a command one fuel less is enough, and fewer bytes are left.
module _ (x : Context) (s : List ℕ) (at code : ℕ) (next : Position) (read : command x s at ≡ Moved code next) where
  pub enough_after : (f : ℕ) → Enough s at (suc f) → Enough s next.at f
  enough_after f h =
      let over : MovedOver x s at code next = moved x s at code next read in
      let i = over.inside in
      let g = over.forward in
      omega arith

  pub fewer_left : length s - next.at < length s - at
  fewer_left =
      let over : MovedOver x s at code next = moved x s at code next read in
      let i = over.inside in
      let g = over.forward in
      omega arith

-- Entries that were written stay.
pub record Stay (n : ℕ) (table later : List ℕ) : Type 0 where
  pub same : (i : ℕ) → i < n → get_or later i 0 ≡ get_or table i 0

pub stay_below : (n k a : ℕ) (table later : List ℕ) → n ≤ k → Stay (k + 1) (set table k a) later → Stay n table later
stay_below n k a table later l st = record { same = λ i h. st.same i (omega arith) ∙ get_or-set_other table k i a 0 (λ e. omega arith) }
