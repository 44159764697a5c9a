-- Rising lists: what each command of one makes of the reading, where a list ends, and what code that reads one does.
use Prim.Native.Nat.{ℕ, zero, suc, ◌+◌, ◌^◌, ◌≤◌, ◌<◌}
use mathlib.Core.Path.{◌≡◌, refl, sym, ◌∙◌}
use mathlib.Core.List.{List, [], ◌∷◌}
use mathlib.Core.Logic.{◌⊎◌, inl, inr}
use mathlib.Core.Bool.{Bool, true, false, not, ◌||◌, or-false, and-true}
use native.Mathlib.Omega.{arith}
use lib.Dec.{leb, eqb}
use borrow.Author.Tests.{le-leb, lt-leb, eqb-true, leb-true, leb-false, not-true, not-false}
use Rattle.std.specs.Prelude.{Result, Ok, Err}
use Rattle.verdicts.specs.declared.Form.{Form}
use Rattle.verdicts.specs.declared.Form.TheVariants.{NotRising}
use Rattle.sets.specs.Sets.{member}
use Rattle.sets.proofs.Laws.{member_zero}
use Rattle.commands.specs.declared.Context.{Context}
use Rattle.commands.specs.declared.Context.TheVariants.{Attributes, Contents}
use Rattle.commands.specs.declared.Position.{Position}
use Rattle.commands.specs.declared.Decoded.{Decoded}
use Rattle.commands.specs.declared.Decoded.TheVariants as Decodeds
use Rattle.commands.specs.declared.ReadError.{ReadError}
use Rattle.commands.specs.Commands.{byte, allowed, command, operands_of, in_range, all_in_range, attribute, content}
use Rattle.commands.specs.Inner.Parts.{Single, part_of, AgreesWith, Enough}
use Rattle.commands.specs.Reading.{Read, whole, refused, unfinished, and_then}
use Rattle.commands.proofs.Laws.{refused_with, moved, MovedOver}
use Rattle.vocabularies.specs.Vocabulary.{is_in}
use Rattle.vocabularies.specs.VocabularyReading.{rising}
use Rattle.vocabularies.specs.Inner.Promises.{NamesRead}
use Rattle.vocabularies.proofs.Parts.{last_agrees_with, last_whole, Finished, last_finishes}

-- One step of the definition.
module _ (f : ℕ) (x : Context) (s : List ℕ) (least at : ℕ) where
  step_end : allowed x (byte s at) ≡ false → rising (suc f) x s least at ≡ whole [] at
  unfolding rising
  step_end a = rw a

  module _ (a : allowed x (byte s at) ≡ true) where
    step_refused : (i : Form) (n : ℕ) → command x s at ≡ Decodeds.Refused i n → rising (suc f) x s least at ≡ refused i n
    unfolding rising
    step_refused i n c = rw (a, c)

    module _ (code : ℕ) (next : Position) (c : command x s at ≡ Decodeds.Moved code next) where
      step_falls : byte s (at + 1) < least → rising (suc f) x s least at ≡ refused NotRising at
      unfolding rising
      step_falls h = rw (a, c, lt-leb least (byte s (at + 1)) h)

      step_more : least ≤ byte s (at + 1)
          → rising (suc f) x s least at ≡ and_then (rising f x s (byte s (at + 1) + 1) next.at) (λ ns end. whole (byte s (at + 1) ∷ ns) end)
      unfolding rising
      step_more h = rw (a, c, le-leb least (byte s (at + 1)) h)

-- What stands at an offset of a rising list.
data Stands (x : Context) (s : List ℕ) (least at : ℕ) : Type 0 where
  ended : allowed x (byte s at) ≡ false → Stands x s least at
  refuses : allowed x (byte s at) ≡ true → (i : Form) (n : ℕ) → command x s at ≡ Decodeds.Refused i n → Stands x s least at
  falls : allowed x (byte s at) ≡ true → (code : ℕ) (next : Position) → command x s at ≡ Decodeds.Moved code next → byte s (at + 1) < least → Stands x s least at
  rises : allowed x (byte s at) ≡ true → (code : ℕ) (next : Position) → command x s at ≡ Decodeds.Moved code next → least ≤ byte s (at + 1) → Stands x s least at

stands : (x : Context) (s : List ℕ) (least at : ℕ) → Stands x s least at
stands x s least at = by_place (allowed x (byte s at)) refl (command x s at) refl
  where
    by_name : allowed x (byte s at) ≡ true → (code : ℕ) (next : Position) → command x s at ≡ Decodeds.Moved code next → (b : Bool) → leb least (byte s (at + 1)) ≡ b → Stands x s least at
    by_name a code next c true e = rises a code next c (leb-true _ _ e)
    by_name a code next c false e = falls a code next c (leb-false _ _ e)

    by_place : (b : Bool) → allowed x (byte s at) ≡ b → (d : Decoded) → command x s at ≡ d → Stands x s least at
    by_place false a d c = ended a
    by_place true a (Decodeds.Refused i n) c = refuses a i n c
    by_place true a (Decodeds.Moved code next) c = by_name a code next c (leb least (byte s (at + 1))) refl

-- A list does not end before its start.
pub rising_ends : (f : ℕ) (x : Context) (s : List ℕ) (least at : ℕ) (ns : List ℕ) (end : ℕ) → rising f x s least at ≡ whole ns end → at ≤ end
unfolding rising
rising_ends zero x s least at ns end e = absurd (let z : ◌≡◌ {A = ℕ} 0 1 = cc in omega arith)
rising_ends (suc f) x s least at ns end e = go (λ least' at' ns' e'. rising_ends f x s least' at' ns' end e') (stands x s least at)
  where
    go : ((least at : ℕ) (ns : List ℕ) → rising f x s least at ≡ whole ns end → at ≤ end) → Stands x s least at → at ≤ end
    go ends (ended a) = let z : at ≡ end = cc (step_end f x s least at a) in omega arith
    go ends (refuses a i n c) = absurd (let z : ◌≡◌ {A = ℕ} 0 1 = cc (step_refused f x s least at a i n c) in omega arith)
    go ends (falls a code next c h) = absurd (let z : ◌≡◌ {A = ℕ} 0 1 = cc (step_falls f x s least at a code next c h) in omega arith)
    go ends (rises a code next c h) =
        let w = last_whole (rising f x s (byte s (at + 1) + 1) next.at) (◌∷◌ (byte s (at + 1))) ns end (sym (step_more f x s least at a code next c h) ∙ e) in
        let l = ends (byte s (at + 1) + 1) next.at w.0 w.1 in
        omega (arith, moved x s at code next c)

-- Any two fuels that are enough read the same.
pub rising_fuel : (f g : ℕ) (x : Context) (s : List ℕ) (least at : ℕ) → Enough s at f → Enough s at g → rising f x s least at ≡ rising g x s least at
rising_fuel zero g x s least at h k = absurd (omega arith)
rising_fuel (suc f) zero x s least at h k = absurd (omega arith)
rising_fuel (suc f) (suc g) x s least at h k = go (λ least' at' h' k'. rising_fuel f g x s least' at' h' k') (stands x s least at)
  where
    go : ((least at : ℕ) → Enough s at f → Enough s at g → rising f x s least at ≡ rising g x s least at) → Stands x s least at
        → rising (suc f) x s least at ≡ rising (suc g) x s least at
    go same (ended a) = step_end f x s least at a ∙ sym (step_end g x s least at a)
    go same (refuses a i n c) = step_refused f x s least at a i n c ∙ sym (step_refused g x s least at a i n c)
    go same (falls a code next c l) = step_falls f x s least at a code next c l ∙ sym (step_falls g x s least at a code next c l)
    go same (rises a code next c l) =
        let m = moved x s at code next c in
        rw (step_more f x s least at a code next c l, step_more g x s least at a code next c l, same (byte s (at + 1) + 1) next.at (omega arith) (omega arith))

pub rising_finishes : (f : ℕ) (x : Context) (s : List ℕ) (least at : ℕ) → Enough s at f → Finished (rising f x s least at)
rising_finishes zero x s least at h = absurd (omega arith)
rising_finishes (suc f) x s least at h = go (λ least' at' h'. rising_finishes f x s least' at' h') (stands x s least at)
  where
    go : ((least at : ℕ) → Enough s at f → Finished (rising f x s least at)) → Stands x s least at → Finished (rising (suc f) x s least at)
    go fin (ended a) = rw (step_end f x s least at a) tt
    go fin (refuses a i n c) = rw (step_refused f x s least at a i n c) tt
    go fin (falls a code next c l) = rw (step_falls f x s least at a code next c l) tt
    go fin (rises a code next c l) =
        let m = moved x s at code next c in
        rw (step_more f x s least at a code next c l)
        (last_finishes (rising f x s (byte s (at + 1) + 1) next.at) (◌∷◌ (byte s (at + 1))) (fin (byte s (at + 1) + 1) next.at (omega arith)))

-- An attribute is below 32, a content below 64.
operand_low : (x : Context) (s : List ℕ) (at code : ℕ) (next : Position) → MovedOver x s at code next → (x ≡ Attributes) ⊎ (x ≡ Contents) → byte s (at + 1) < 64
unfolding allowed operands_of all_in_range in_range
operand_low x s at code next m (inl k) =
    let first : byte s at ≡ 0x02 = eqb-true (byte s at) 0x02 (rw k at m.permitted) in
    let low : byte s (at + 1) ≤ 31 = leb-true (byte s (at + 1)) 31 (sym (and-true (leb (byte s (at + 1)) 31)) ∙ (rw first at m.ranges)) in
    omega arith
operand_low x s at code next m (inr k) =
    let first : byte s at ≡ 0x03 = eqb-true (byte s at) 0x03 (rw k at m.permitted) in
    let low : byte s (at + 1) ≤ 63 = leb-true (byte s (at + 1)) 63 (sym (and-true (leb (byte s (at + 1)) 63)) ∙ (rw first at m.ranges)) in
    omega arith

-- What code that reads a list does: from a place on, with the names so far in a set.
abbrev pub NamesFrom : List ℕ → Context → ℕ → ℕ → ℕ → Result (ℕ × Position) ReadError → Type 0
NamesFrom s x least at set r =
    (f : ℕ) → Enough s at f → AgreesWith (λ ns all. (k : ℕ) → member all k ≡ (is_in k ns || member set k)) (rising f x s least at) r

-- What is read from here on is what is read from the start.
pub record NamesContinue (s : List ℕ) (x : Context) (start least at set : ℕ) : Type 0 where
  pub continues : (r : Result (ℕ × Position) ReadError) → NamesFrom s x least at set r → NamesRead s x start r

pub names_start : (s : List ℕ) (x : Context) (at : ℕ) → NamesContinue s x at 0 at 0
names_start s x at = record { continues = λ r h f e. of_empty (rising f x s 0 at) r (h f e) }
  where
    of_empty : (y : Read (List ℕ)) (r : Result (ℕ × Position) ReadError) → AgreesWith (λ ns all. (k : ℕ) → member all k ≡ (is_in k ns || member 0 k)) y r
        → AgreesWith (λ ns all. (k : ℕ) → member all k ≡ is_in k ns) y r
    of_empty (whole ns end) (Ok (all, p)) h = (h.0, λ k. rw (h.1 k, member_zero k) (or-false (is_in k ns)))
    of_empty (whole ns end) (Err e) h = h
    of_empty (refused i n) (Ok (all, p)) h = h
    of_empty (refused i n) (Err e) h = h
    of_empty unfinished r h = h

one_more : (n i set : Bool) → (i || (n || set)) ≡ ((n || i) || set)
one_more true true set = refl
one_more true false set = refl
one_more false i set = refl

module _ (s : List ℕ) (x : Context) (start least set : ℕ) (place : Position) (on : NamesContinue s x start least place.at set) (b : ℕ) (t : Bool) (first : b ≡ byte s place.at) (told : t ≡ allowed x b) where
  allows : (u : Bool) → t ≡ u → allowed x (byte s place.at) ≡ u
  allows u e = rw (← first, ← told) e

  pub names_end : not t ≡ true → NamesRead s x start (Ok (set, place))
  unfolding is_in
  names_end e = on.continues (Ok (set, place)) λ f h. agrees f h
    where
      agrees : (f : ℕ) → Enough s place.at f → AgreesWith (λ ns all. (k : ℕ) → member all k ≡ (is_in k ns || member set k)) (rising f x s least place.at) (Ok (set, place))
      agrees zero h = absurd (omega arith)
      agrees (suc f) h = rw (step_end f x s least place.at (allows false (not-true t e))) (refl, λ k. refl)

  module _ (e : not t ≡ false) (d : Decoded) (c : d ≡ command x s place.at) where
    pub names_refused : (i : ReadError) → part_of d ≡ Err i → NamesRead s x start (Err i)
    names_refused i q = on.continues (Err i) λ f h. agrees f h
      where
        agrees : (f : ℕ) → Enough s place.at f → AgreesWith (λ ns all. (k : ℕ) → member all k ≡ (is_in k ns || member set k)) (rising f x s least place.at) (Err i)
        agrees zero h = absurd (omega arith)
        agrees (suc f) h = rw (step_refused f x s least place.at (allows true (not-false t e)) i.form i.at (sym c ∙ refused_with d i q)) (refl, refl)

    module _ (code : ℕ) (next : Position) (q : d ≡ Decodeds.Moved code next) (name : ℕ) (named : name ≡ byte s (place.at + 1)) where
      pub names_fall : name < least → NamesRead s x start (Err (record { form = NotRising; at = place.at }))
      names_fall l = on.continues (Err (record { form = NotRising; at = place.at })) λ f h. agrees f h
        where
          agrees : (f : ℕ) → Enough s place.at f → AgreesWith (λ ns all. (k : ℕ) → member all k ≡ (is_in k ns || member set k)) (rising f x s least place.at) (Err (record { form = NotRising; at = place.at }))
          agrees zero h = absurd (omega arith)
          agrees (suc f) h = rw (step_falls f x s least place.at (allows true (not-false t e)) code next (sym c ∙ q) (rw (← named) l)) (refl, refl)

      pub names_more : (set' : ℕ) → least ≤ name → ((k : ℕ) → member set' k ≡ (eqb k name || member set k)) → NamesContinue s x start (name + 1) next.at set'
      unfolding is_in
      names_more set' l w = record { continues = λ r h. on.continues r λ f n. agrees r h f n }
        where
          agrees : (r : Result (ℕ × Position) ReadError) → NamesFrom s x (name + 1) next.at set' r → (f : ℕ) → Enough s place.at f
              → AgreesWith (λ ns all. (k : ℕ) → member all k ≡ (is_in k ns || member set k)) (rising f x s least place.at) r
          agrees r h zero n = absurd (omega arith)
          agrees r h (suc f) n =
              let m = moved x s place.at code next (sym c ∙ q) in
              rw (step_more f x s least place.at (allows true (not-false t e)) code next (sym c ∙ q) (rw (← named) l), ← named)
              (last_agrees_with (λ ns all. (k : ℕ) → member all k ≡ (is_in k ns || member set' k)) (λ ns all. (k : ℕ) → member all k ≡ (is_in k ns || member set k))
              (rising f x s (name + 1) next.at) (◌∷◌ name) r (λ ns all p k. rw (p k, w k) (one_more (eqb k name) (is_in k ns) (member set k))) (h f (omega arith)))

      pub name_low : (x ≡ Attributes) ⊎ (x ≡ Contents) → name < 64
      name_low k = rw named (operand_low x s place.at code next (moved x s place.at code next (sym c ∙ q)) k)

      pub next_name_fits : (x ≡ Attributes) ⊎ (x ≡ Contents) → name + 1 < 2 ^ 8
      next_name_fits k = let l = name_low k in omega arith

-- The commands of the two lists.
pub attribute_single : Single Attributes 0x02 31
unfolding allowed operands_of in_range
attribute_single = record { may_stand = refl; operand = attribute; alone = refl; is_byte = refl; range = λ s i. refl }

pub content_single : Single Contents 0x03 63
unfolding allowed operands_of in_range
content_single = record { may_stand = refl; operand = content; alone = refl; is_byte = refl; range = λ s i. refl }
