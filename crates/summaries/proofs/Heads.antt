-- What reading the heads from an offset on gives, from what is read there.
use Prim.Native.Nat.{ℕ, zero, suc, ◌+◌, ◌*◌, ◌-◌, ◌≤◌, ◌<◌}
use mathlib.Core.Path.{◌≡◌, refl, sym, ap, ◌∙◌}
use mathlib.Core.List.{List, [], ◌∷◌}
use Rattle.std.specs.Prelude.{Result, Ok, Err}
use mathlib.Core.Bool.{Bool, true, false, cond, ◌&&◌, ◌||◌}
use native.Mathlib.Omega.{arith}
use lib.ListN.{length, get_or, set, replicate}
use lib.Seq.{get_or-set_same, get_or-set_other}
use lib.Dec.{eqb, leb, ltb}
use borrow.Author.Tests.{eq-eqb, ne_eqb, eqb-true, eqb-false, ltb-true, ltb-false}
use Rattle.verdicts.specs.declared.Form.{Form}
use Rattle.verdicts.specs.declared.Form.TheVariants.{NotRising, Missing}
use Rattle.commands.specs.declared.Context.{Context}
use Rattle.commands.specs.declared.Context.TheVariants.{Heads}
use Rattle.commands.specs.declared.Position.{Position}
use Rattle.commands.specs.declared.Decoded.{Decoded}
use Rattle.commands.specs.declared.Decoded.TheVariants.{Moved, Refused}
use Rattle.commands.specs.declared.ReadError.{ReadError}
use Rattle.commands.specs.Commands.{byte, allowed, command, operands_of}
use Rattle.commands.specs.Reading.{Read, whole, refused, and_then, on_decoded, when, enough}
use Rattle.commands.specs.Inner.Parts.{AgreesAs, Enough, part_of}
use Rattle.commands.proofs.Laws.{MovedOver, moved}
use Rattle.programs.specs.Program.{template_variable, string_variable}
use Rattle.programs.proofs.Laws.{nth, entry_low, WholeAs, agrees_map, agrees_whole, agrees_refused, enough_enough, enough_after, fewer_left, Stay}
use Rattle.summaries.specs.Proposal.{Holding, Head}
use Rattle.summaries.specs.ProposalReading.{holdings, variable_of, holding_context, proposal}
use Rattle.summaries.specs.Summaries.{same_variable, under}
use Rattle.summaries.specs.Inner.Promises.{Stand, Kept, ProposalReads, HoldingsRead, tested_head, head_here}
use Rattle.summaries.proofs.Here.{HeadStands}
use Rattle.summaries.proofs.Reading.{holdings_same}

-- Two heads are of one point and variable where their numbers are the same.
module _ (a b : ℕ) where
  by_sorts : (c d : Bool) → ltb a 4 ≡ c → ltb b 4 ≡ d
      → same_variable (cond c (template_variable a) (string_variable (a - 4))) (cond d (template_variable b) (string_variable (b - 4))) ≡ eqb a b
  by_sorts true true e e' = refl
  by_sorts true false e e' = sym (ne_eqb a b λ q. let l = ltb-true a 4 e in let l' = ltb-false b 4 e' in omega arith)
  by_sorts false true e e' = sym (ne_eqb a b λ q. let l = ltb-false a 4 e in let l' = ltb-true b 4 e' in omega arith)
  by_sorts false false e e' = by_test (eqb (a - 4) (b - 4)) refl
    where
      by_test : (t : Bool) → eqb (a - 4) (b - 4) ≡ t → eqb (a - 4) (b - 4) ≡ eqb a b
      by_test true q = q ∙ sym (eq-eqb a b (let l = ltb-false a 4 e in let l' = ltb-false b 4 e' in let q' = eqb-true (a - 4) (b - 4) q in omega arith))
      by_test false q = q ∙ sym (ne_eqb a b λ q'. eqb-false (a - 4) (b - 4) q (ap (◌- 4) q'))

  same_variable_lem : same_variable (variable_of a) (variable_of b) ≡ eqb a b
  same_variable_lem = by_sorts (ltb a 4) (ltb b 4) refl refl

same_number : (p a q b : ℕ) → a < 8 → b < 8 → (eqb p q && same_variable (variable_of a) (variable_of b)) ≡ eqb (p * 8 + a) (q * 8 + b)
same_number p a q b la lb = rw (same_variable_lem a b) (by_tests (eqb p q) (eqb a b) refl refl)
  where
    by_tests : (t u : Bool) → eqb p q ≡ t → eqb a b ≡ u → (t && u) ≡ eqb (p * 8 + a) (q * 8 + b)
    by_tests true true e e' = sym (eq-eqb (p * 8 + a) (q * 8 + b) (let l = eqb-true p q e in let l' = eqb-true a b e' in omega arith))
    by_tests true false e e' = sym (ne_eqb (p * 8 + a) (q * 8 + b) λ n. eqb-false a b e' (let l = eqb-true p q e in omega arith))
    by_tests false u e e' = sym (ne_eqb (p * 8 + a) (q * 8 + b) λ n. eqb-false p q e (omega arith))

-- Heads that are not written yet.
pub record Unwritten (least : ℕ) (heads : List ℕ) : Type 0 where
  pub zero_at : (k : ℕ) → least ≤ k → get_or heads k 0 ≡ 0

-- A list of zeros.
pub zeros : (n k : ℕ) → ◌≡◌ {A = ℕ} (get_or (replicate n 0) k 0) 0
zeros zero k = refl
zeros (suc n) zero = refl
zeros (suc n) (suc k) = zeros n k

pub none_written : (heads : List ℕ) → heads ≡ replicate 256 0 → Unwritten 0 heads
none_written heads e = record { zero_at = λ k l. rw e (zeros 256 k) }

pub unwritten_after : (least n at : ℕ) (heads : List ℕ) → least ≤ n → Unwritten least heads → Unwritten (n + 1) (set heads n at)
unwritten_after least n at heads l u = record { zero_at = λ k h. get_or-set_other heads n k at 0 (λ e. omega arith) ∙ u.zero_at k (omega arith) }

module _ (count points : ℕ) (s : List ℕ) (least at : ℕ) where
  -- The reading goes by what is read here.
  abbrev made : List Holding → Head
  made φs = record { point = byte s (at + 1); variable = variable_of (byte s (at + 2)); holdings = φs }

  abbrev number : ℕ
  number = byte s (at + 1) * 8 + byte s (at + 2)

  abbrev on_head : ℕ → Decoded → Read (List Head)
  on_head f d = on_decoded d λ code next. when (eqb code 0x4F)
      (λ _. whole [] next)
      (λ _. and_then (holdings f (holding_context (variable_of (byte s (at + 2)))) count s 0 next) λ φs after.
      and_then (proposal f count points s (number + 1) after) λ hs end. whole (made φs ∷ hs) end)

  by_tests : (f code : ℕ) (next : Position) (b₁ b₂ b₃ : Bool)
      → eqb code 0x4F ≡ b₁
      → when b₁
      (λ _. whole [] next.at)
      (λ _. when b₂
      (λ _. when b₃
      (λ _. and_then (holdings f (holding_context (variable_of (byte s (at + 2)))) count s 0 next.at) λ φs after.
      and_then (proposal f count points s (number + 1) after) λ hs end. whole (made φs ∷ hs) end)
      (λ _. refused NotRising at))
      (λ _. refused Missing at))
      ≡ on_head f (cond b₁ (Moved code next) (cond b₂ (cond b₃ (Moved code next) (Refused NotRising at)) (Refused Missing at)))
  by_tests f code next true b₂ b₃ e = rw e
  by_tests f code next false true true e = rw e
  by_tests f code next false true false e = refl
  by_tests f code next false false b₃ e = refl

  reads_here : (f : ℕ) → proposal (suc f) count points s least at ≡ on_head f (head_here points s least at)
  unfolding proposal
  reads_here f = by_decoded (command Heads s at)
    where
      by_decoded : (d : Decoded) → on_decoded d (λ code next. when (eqb code 0x4F)
          (λ _. whole [] next)
          (λ _. when (ltb (byte s (at + 1)) points)
          (λ _. when (leb least (byte s (at + 1) * 8 + byte s (at + 2)))
          (λ _. and_then (holdings f (holding_context (variable_of (byte s (at + 2)))) count s 0 next) λ φs after.
          and_then (proposal f count points s (number + 1) after) λ hs end. whole (made φs ∷ hs) end)
          (λ _. refused NotRising at))
          (λ _. refused Missing at))) ≡ on_head f (tested_head points s least at d)
      by_decoded (Moved code next) = by_tests f code next (eqb code 0x4F) (ltb (byte s (at + 1)) points) (leb least number) refl
      by_decoded (Refused form n) = refl

  pub heads_refused : (d : Decoded) (form : Form) (n : ℕ) (heads : List ℕ) (r : Result Position ReadError) → d ≡ head_here points s least at → d ≡ Refused form n → part_of d ≡ r
      → ProposalReads count points s least at heads r
  heads_refused d form n heads r d_is e p zero h = absurd (omega arith)
  heads_refused d form n heads r d_is e p (suc f) h = rw (reads_here f, ← d_is, ← p, e) (refl, refl)

  -- `4F` ends the heads.
  pub heads_end : (d : Decoded) (code : ℕ) (next : Position) (heads : List ℕ) → d ≡ head_here points s least at → d ≡ Moved code next → code ≡ 0x4F
      → Unwritten least heads
      → ProposalReads count points s least at heads (Ok next)
  unfolding under
  heads_end d code next heads d_is e c z zero h = absurd (omega arith)
  heads_end d code next heads d_is e c z (suc f) h = rw (reads_here f, ← d_is, e, eq-eqb code 0x4F c) (
    refl,
    record {
      stand = λ p v l l' o. record { none = λ q. refl; some = λ q. absurd (q (z.zero_at (p * 8 + v) o)) };
      others = λ p v l o. refl;
    },
  )

  module _ (d : Decoded) (code : ℕ) (next : Position) (d_is : d ≡ head_here points s least at) (e : d ≡ Moved code next) (on : code ≡ 0x4F → ⊥) (m : HeadStands points s least at code next) where
    reads_items : (f : ℕ) → proposal (suc f) count points s least at
        ≡ (and_then (holdings f (holding_context (variable_of (byte s (at + 2)))) count s 0 next.at) λ φs after.
        and_then (proposal f count points s (number + 1) after) λ hs end. whole (made φs ∷ hs) end)
    reads_items f = reads_here f ∙ rw (← d_is, e, ne_eqb code 0x4F on)

    pub items_refused : (part : Result Position ReadError) (i : ReadError) (heads : List ℕ) → HoldingsRead (holding_context (variable_of (byte s (at + 2)))) count s 0 next.at part
        → part ≡ Err i → ProposalReads count points s least at heads (Err i)
    items_refused part i heads read q zero h = absurd (omega arith)
    items_refused part i heads read q (suc f) h =
        rw (← q, reads_items f)
        (agrees_refused (λ φs end. next.at ≤ end) (λ hs end. Kept count s least heads hs) (holdings f (holding_context (variable_of (byte s (at + 2)))) count s 0 next.at)
        (λ φs after. and_then (proposal f count points s (number + 1) after) λ hs end. whole (made φs ∷ hs) end) part i q
        (read f (enough_after Heads s at code next m.read f h)))

-- A variable of a head is low.
either_is : (a b c : ℕ) (t u : Bool) → eqb c a ≡ t → eqb c b ≡ u → (t || u) ≡ true → (c ≡ b → ⊥) → c ≡ a
either_is a b c true u e e' h n = eqb-true c a e
either_is a b c false true e e' h n = absurd (n (eqb-true c b e'))
either_is a b c false false e e' h n = absurd (let z : ◌≡◌ {A = ℕ} 0 1 = cc in omega arith)

module _ (points : ℕ) (s : List ℕ) (least at code : ℕ) (next : Position) (m : HeadStands points s least at code next) (on : code ≡ 0x4F → ⊥) where
  over : MovedOver Heads s at code next
  over = moved Heads s at code next m.read

  is_head : byte s at ≡ 0x40
  unfolding allowed
  is_head = either_is 0x40 0x4F (byte s at) (eqb (byte s at) 0x40) (eqb (byte s at) 0x4F) refl refl over.permitted (λ q. on (over.first ∙ q))

  pub variable_there : byte s (at + 2) < 8
  unfolding operands_of nth
  variable_there = entry_low s at (byte s at) 0x40 1 2 (byte s (at + 2)) over.ranges is_head refl refl refl

-- What stands under the first head, and under the others.
module _ (p a : ℕ) (φs : List Holding) (hs : List Head) (la : a < 8) (q b : ℕ) (lb : b < 8) where
  under_first : q * 8 + b ≡ p * 8 + a → under (record { point = p; variable = variable_of a; holdings = φs } ∷ hs) q (variable_of b) ≡ φs
  unfolding under
  under_first e = rw (same_number p a q b la lb, eq-eqb (p * 8 + a) (q * 8 + b) (sym e))

  under_other : (q * 8 + b ≡ p * 8 + a → ⊥) → under (record { point = p; variable = variable_of a; holdings = φs } ∷ hs) q (variable_of b) ≡ under hs q (variable_of b)
  unfolding under
  under_other n = rw (same_number p a q b la lb, ne_eqb (p * 8 + a) (q * 8 + b) (λ e. n (sym e)))

stand_as : (count : ℕ) (s : List ℕ) (hs hs' : List Head) (p v o : ℕ) → under hs' p (variable_of v) ≡ under hs p (variable_of v) → Stand count s hs p v o → Stand count s hs' p v o
stand_as count s hs hs' p v o e S = record {
  none = λ q. e ∙ S.none q;
  some = λ q f h. ((S.some q f h).0, rw e (S.some q f h).1);
}

module _ (count : ℕ) (s : List ℕ) (least p a at : ℕ) (φs : List Holding) (hs : List Head) (heads : List ℕ) (la : a < 8) (rises : least ≤ p * 8 + a)
    (here : get_or heads (p * 8 + a) 0 ≡ at) (past : 0 < at) (passed : (k : ℕ) → least ≤ k → k < p * 8 + a → get_or heads k 0 ≡ 0)
    (items : (f : ℕ) → Enough s at f → (end : ℕ) × (holdings f (holding_context (variable_of a)) count s 0 at ≡ whole φs end)) (K : Kept count s (p * 8 + a + 1) heads hs) where
  abbrev more : List Head
  more = record { point = p; variable = variable_of a; holdings = φs } ∷ hs

  module _ (q b : ℕ) (lb : b < 8) where
    stands_here : q * 8 + b ≡ p * 8 + a → Stand count s more q b at
    stands_here e = record {
      none = λ z. absurd (omega arith);
      some = λ n f h. ((items f h).0, let b_is : b ≡ a = omega arith in rw (under_first p a φs hs la q b lb e, b_is) (items f h).1);
    }

    stands_passed : least ≤ q * 8 + b → q * 8 + b < p * 8 + a → Stand count s more q b (get_or heads (q * 8 + b) 0)
    stands_passed l l' = record {
      none = λ z. under_other p a φs hs la q b lb (λ e. omega arith) ∙ K.others q b lb (omega arith);
      some = λ n. absurd (n (passed (q * 8 + b) l l'));
    }

    by_number : q < 32 → least ≤ q * 8 + b → (t u : Bool) → eqb (q * 8 + b) (p * 8 + a) ≡ t → ltb (q * 8 + b) (p * 8 + a) ≡ u
        → Stand count s more q b (get_or heads (q * 8 + b) 0)
    by_number lq l true u e e' = let n = eqb-true (q * 8 + b) (p * 8 + a) e in rw (n, here) (stands_here n)
    by_number lq l false true e e' = stands_passed l (ltb-true _ _ e')
    by_number lq l false false e e' =
        let n = eqb-false (q * 8 + b) (p * 8 + a) e in
        let n' = ltb-false (q * 8 + b) (p * 8 + a) e' in
        stand_as count s hs more q b (get_or heads (q * 8 + b) 0) (under_other p a φs hs la q b lb n) (K.stand q b lq lb (omega arith))

  kept_first : Kept count s least heads more
  kept_first = record {
    stand = λ q b lq lb l. by_number q b lb lq l (eqb (q * 8 + b) (p * 8 + a)) (ltb (q * 8 + b) (p * 8 + a)) refl refl;
    others = λ q b lb l. under_other p a φs hs la q b lb (λ e. omega arith) ∙ K.others q b lb (omega arith);
  }

module _ (count points : ℕ) (s : List ℕ) (least at : ℕ) (d : Decoded) (code : ℕ) (next : Position) (d_is : d ≡ head_here points s least at) (e : d ≡ Moved code next)
    (on : code ≡ 0x4F → ⊥) (m : HeadStands points s least at code next) (v : ℕ) (v_is : v ≡ byte s (at + 2))
    (x : Context) (x-is : x ≡ holding_context (variable_of v)) (part : Result Position ReadError) (read : HoldingsRead x count s 0 next.at part) where
  abbrev context : Context
  context = holding_context (variable_of (byte s (at + 2)))

  read_there : HoldingsRead context count s 0 next.at part
  read_there = rw (x-is, v_is) at read

  pub items_refuse : (i : ReadError) (heads : List ℕ) → part ≡ Err i → ProposalReads count points s least at heads (Err i)
  items_refuse i heads q = items_refused count points s least at d code next d_is e on m part i heads read_there q

  module _ (after : Position) (is_whole : part ≡ Ok after) where
    items : (f : ℕ) → Enough s next.at f → WholeAs (λ φs end. next.at ≤ end) (holdings f context count s 0 next.at) after
    items f h = agrees_whole (λ φs end. next.at ≤ end) (holdings f context count s 0 next.at) part after is_whole (read_there f h)

    forward : next.at ≤ after.at
    forward = let W = items (enough s) (enough_enough s next.at) in let l = W.holds in let l' = W.ends in omega arith

    pub fewer_after : length s - after.at < length s - at
    fewer_after = let l = fewer_left Heads s at code next m.read in let l' = forward in omega arith

    module _ (n : ℕ) (n-is : n ≡ byte s (at + 1) * 8 + byte s (at + 2)) (heads : List ℕ) (w : length heads ≡ 256) (low : n < 256) (unwritten : Unwritten least heads)
        (heads' : List ℕ) (stay : Stay (n + 1) (set heads n next.at) heads') where
      here : get_or heads' n 0 ≡ next.at
      here = stay.same n (omega arith) ∙ get_or-set_same heads n next.at 0 (omega arith)

      passed : (k : ℕ) → least ≤ k → k < n → get_or heads' k 0 ≡ 0
      passed k l h = (stay.same k (omega arith) ∙ get_or-set_other heads n k next.at 0 (λ q. omega arith)) ∙ unwritten.zero_at k l

      kept_more : (φs : List Holding) → ((f : ℕ) → Enough s next.at f → (end : ℕ) × (holdings f context count s 0 next.at ≡ whole φs end))
          → (hs : List Head) → Kept count s (n + 1) heads' hs → Kept count s least heads' (made count points s least at φs ∷ hs)
      kept_more φs stand hs K =
          kept_first count s least (byte s (at + 1)) (byte s (at + 2)) next.at φs hs heads' (variable_there points s least at code next m on) m.rises
          (rw n-is at here) (let l = (over points s least at code next m on).forward in omega arith)
          (λ k l h. passed k l (omega arith)) stand (rw n-is at K)

      pub heads_go_on : (r : Result Position ReadError) → ProposalReads count points s (n + 1) after.at heads' r → ProposalReads count points s least at heads' r
      heads_go_on r later zero h = absurd (omega arith)
      heads_go_on r later (suc f) h =
          let fuel = enough_after Heads s at code next m.read f h in
          let W = items f fuel in
          let rest : AgreesAs (λ hs end. Kept count s (n + 1) heads' hs) (proposal f count points s (byte s (at + 1) * 8 + byte s (at + 2) + 1) W.end) r
          = rw (← n-is, ← W.ends) (later f (let l = forward in omega arith)) in
          rw (reads_items count points s least at d code next d_is e on m f, W.reads)
          (agrees_map (λ hs end. Kept count s (n + 1) heads' hs) (λ hs end. Kept count s least heads' hs) (λ hs. made count points s least at W.tree ∷ hs)
          (proposal f count points s (byte s (at + 1) * 8 + byte s (at + 2) + 1) W.end) r
          (λ hs end. kept_more W.tree (λ g k. (W.end, holdings_same context count s 0 next.at g f k fuel ∙ W.reads)) hs) rest)

pub number_low : (points : ℕ) (s : List ℕ) (least at code : ℕ) (next : Position) (n : ℕ) → HeadStands points s least at code next → (code ≡ 0x4F → ⊥) → points ≤ 32
    → n ≡ byte s (at + 1) * 8 + byte s (at + 2) → n < 256
number_low points s least at code next n m on l e = let h = m.there in let h' = variable_there points s least at code next m on in omega arith
