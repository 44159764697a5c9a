-- What reading the items from an offset on gives, from what is read there.
use Prim.Native.Nat.{ℕ, zero, suc, ◌+◌, ◌≤◌, ◌<◌}
use mathlib.Core.Path.{◌≡◌, refl, sym, ap, ◌∙◌}
use mathlib.Core.List.{List, [], ◌∷◌}
use Rattle.std.specs.Prelude.{Result, Ok, Err}
use mathlib.Core.Bool.{Bool, true, false, cond, not}
use native.Mathlib.Omega.{arith}
use native.Mathlib.Nat.{le_refl}
use lib.Dec.{leb}
use borrow.Author.Tests.{not-true, not-false}
use Rattle.verdicts.specs.declared.Form.{Form}
use Rattle.verdicts.specs.declared.Form.TheVariants.{NotRising, Missing}
use Rattle.commands.specs.declared.Context.{Context}
use Rattle.commands.specs.declared.Position.{Position}
use Rattle.commands.specs.declared.Decoded.{Decoded}
use Rattle.commands.specs.declared.Decoded.TheVariants.{Moved, Refused}
use Rattle.commands.specs.declared.ReadError.{ReadError}
use Rattle.commands.specs.Commands.{byte, allowed, command}
use Rattle.commands.specs.Reading.{Read, whole, refused, and_then, on_decoded, when}
use Rattle.commands.specs.Inner.Parts.{Enough, part_of}
use Rattle.commands.proofs.Laws.{and_then_whole, on_decoded_whole}
use Rattle.programs.proofs.Laws.{agrees_map, enough_after, fewer_left}
use Rattle.summaries.specs.Proposal.{Holding}
use Rattle.summaries.specs.ProposalReading.{holding_at, holding_there, rank, holdings}
use Rattle.summaries.specs.Inner.Promises.{Ranked, HoldingsRead}
use Rattle.summaries.proofs.Here.{tested_holding, holding_here, holding_refused, holding_missing, holding_not_rising, holding_moves, HoldingStands, holding_stands}

module _ (x : Context) (count : ℕ) (s : List ℕ) (least at : ℕ) where
  -- The reading goes by what is read here.
  abbrev on_holding : ℕ → Decoded → Read (List Holding)
  on_holding f d = on_decoded d λ code next. and_then (holdings f x count s (rank s at code + 1) next) λ φs end. whole (holding_at s at code ∷ φs) end

  by_tests : (f code : ℕ) (next : Position) (b₁ b₂ : Bool)
      → when b₁
      (λ _. when b₂
      (λ _. and_then (holdings f x count s (rank s at code + 1) next.at) λ φs end. whole (holding_at s at code ∷ φs) end)
      (λ _. refused NotRising at))
      (λ _. refused Missing at)
      ≡ on_holding f (cond b₁ (cond b₂ (Moved code next) (Refused NotRising at)) (Refused Missing at))
  by_tests f code next true true = refl
  by_tests f code next true false = refl
  by_tests f code next false b₂ = refl

  reads_here : (f : ℕ) → holdings (suc f) x count s least at ≡ when (allowed x (byte s at)) (λ _. on_holding f (holding_here x count s least at)) (λ _. whole [] at)
  unfolding holdings
  reads_here f = ap (λ (r : Read (List Holding)). when (allowed x (byte s at)) (λ _. r) (λ _. whole [] at)) (by_decoded (command x s at))
    where
      by_decoded : (d : Decoded) → on_decoded d (λ code next. when (holding_there count (holding_at s at code))
          (λ _. when (leb least (rank s at code))
          (λ _. and_then (holdings f x count s (rank s at code + 1) next) λ φs end. whole (holding_at s at code ∷ φs) end)
          (λ _. refused NotRising at))
          (λ _. refused Missing at)) ≡ on_holding f (tested_holding count s least at d)
      by_decoded (Moved code next) = by_tests f code next (holding_there count (holding_at s at code)) (leb least (rank s at code))
      by_decoded (Refused form n) = refl

  -- A command that is no item ends them.
  pub holdings_end : (b : Bool) (code : ℕ) (here : Position) → here.at ≡ at → code ≡ byte s at → b ≡ allowed x code → not b ≡ true → HoldingsRead x count s least at (Ok here)
  holdings_end b code here h c_is b_is n zero e = absurd (omega arith)
  holdings_end b code here h c_is b_is n (suc f) e =
      let no_item : allowed x (byte s at) ≡ false = rw c_is at (sym b_is ∙ not-true b n) in
      rw (reads_here f, no_item) (h, le_refl at)

  module _ (b : Bool) (code₀ : ℕ) (c_is : code₀ ≡ byte s at) (b_is : b ≡ allowed x code₀) (item : not b ≡ false) where
    an_item : allowed x (byte s at) ≡ true
    an_item = rw c_is at (sym b_is ∙ not-false b item)

    reads_refusal : (form : Form) (n : ℕ) → Refused form n ≡ holding_here x count s least at → HoldingsRead x count s least at (Err (record { form = form; at = n }))
    reads_refusal form n e zero h = absurd (omega arith)
    reads_refusal form n e (suc f) h = rw (reads_here f, an_item, ← e) (refl, refl)

    module _ (d : Decoded) (d_is : d ≡ command x s at) where
      pub holdings_refused : (form : Form) (n : ℕ) (part : Result Position ReadError) → d ≡ Refused form n → part_of d ≡ part → HoldingsRead x count s least at part
      holdings_refused form n part e p = rw (← p, e) (reads_refusal form n (sym e ∙ holding_refused x count s least at d d_is form n e))

      module _ (code : ℕ) (next : Position) (e : d ≡ Moved code next) (b' : Bool) (there : b' ≡ holding_there count (holding_at s at code)) where
        pub holdings_missing : not b' ≡ true → HoldingsRead x count s least at (Err (record { form = Missing; at = at }))
        holdings_missing h = reads_refusal Missing at (holding_missing x count s least at d d_is code next e b' there h)

        module _ (h : not b' ≡ false) (r : ℕ) (ranks : Ranked s at code r) where
          pub holdings_fall : r < least → HoldingsRead x count s least at (Err (record { form = NotRising; at = at }))
          holdings_fall l = reads_refusal NotRising at (holding_not_rising x count s least at d d_is code next e b' there h r ranks l)

          pub holdings_go_on : least ≤ r → (part : Result Position ReadError) → HoldingsRead x count s (r + 1) next.at part → HoldingsRead x count s least at part
          holdings_go_on l part later zero n = absurd (omega arith)
          holdings_go_on l part later (suc f) n =
              rw (reads_here f, an_item, ← holding_moves x count s least at d d_is code next e b' there h r ranks l, ← ranks.is)
              (agrees_map (λ φs end. next.at ≤ end) (λ φs end. at ≤ end) (λ φs. holding_at s at code ∷ φs) (holdings f x count s (r + 1) next.at) part
              (λ φs end l. let w = fewer_left x s at code next (sym d_is ∙ e) in omega arith)
              (later f (enough_after x s at code next (sym d_is ∙ e) f n)))

-- Two fuels that are enough read the same.
module _ (x : Context) (count : ℕ) (s : List ℕ) (least at f g : ℕ) where
  same_here : (d : Decoded) → d ≡ holding_here x count s least at
      → ((code : ℕ) (next : Position) → HoldingStands x count s least at code next → holdings f x count s (rank s at code + 1) next.at ≡ holdings g x count s (rank s at code + 1) next.at)
      → on_holding x count s least at f d ≡ on_holding x count s least at g d
  same_here (Moved code next) e same = rw (same code next (holding_stands x count s least at (Moved code next) code next e refl))
  same_here (Refused form n) e same = refl

pub holdings_same : (x : Context) (count : ℕ) (s : List ℕ) (least at f g : ℕ) → Enough s at f → Enough s at g → holdings f x count s least at ≡ holdings g x count s least at
holdings_same x count s least at zero g h h' = absurd (omega arith)
holdings_same x count s least at (suc f) zero h h' = absurd (omega arith)
holdings_same x count s least at (suc f) (suc g) h h' =
    (reads_here x count s least at f
    ∙ ap (λ (r : Read (List Holding)). when (allowed x (byte s at)) (λ _. r) (λ _. whole [] at))
    (same_here x count s least at f g (holding_here x count s least at) refl λ code next m.
    holdings_same x count s (rank s at code + 1) next.at f g (enough_after x s at code next m.read f h) (enough_after x s at code next m.read g h')))
    ∙ sym (reads_here x count s least at g)

-- Items that were read whole: there is none, or there is a first, and the rest is read on.
pub record FirstHolding (x : Context) (count : ℕ) (s : List ℕ) (least at f : ℕ) (φs : List Holding) (end : ℕ) : Type 0 where
  pub code : ℕ
  pub next : Position
  pub fuel : ℕ
  pub rest : List Holding
  pub fuel_is : f ≡ suc fuel
  pub stands : HoldingStands x count s least at code next
  pub is : φs ≡ holding_at s at code ∷ rest
  pub more : holdings fuel x count s (rank s at code + 1) next.at ≡ whole rest end

module _ (x : Context) (count : ℕ) (s : List ℕ) (least at : ℕ) (φs : List Holding) (end : ℕ) where
  out_of_fuel : {A : Type 0} → holdings zero x count s least at ≡ whole φs end → A
  unfolding holdings
  out_of_fuel e = absurd (let z : ◌≡◌ {A = ℕ} 0 1 = cc in omega arith)

  pub no_holding : (f : ℕ) → holdings f x count s least at ≡ whole φs end → allowed x (byte s at) ≡ false → (φs ≡ []) × (end ≡ at)
  no_holding zero e n = out_of_fuel e
  no_holding (suc f) e n =
      let q : whole [] at ≡ whole φs end = sym (reads_here x count s least at f ∙ rw n) ∙ e in
      (cc, cc)

  pub first_holding : (f : ℕ) → holdings f x count s least at ≡ whole φs end → allowed x (byte s at) ≡ true → FirstHolding x count s least at f φs end
  first_holding zero e a = out_of_fuel e
  first_holding (suc f) e a =
      let here : on_holding x count s least at f (holding_here x count s least at) ≡ whole φs end = sym (reads_here x count s least at f ∙ rw a) ∙ e in
      let d = on_decoded_whole (holding_here x count s least at) _ φs end here in
      let m = and_then_whole (holdings f x count s (rank s at d.0 + 1) d.1.at) (λ φs end. whole (holding_at s at d.0 ∷ φs) end) φs end d.3 in
      let q : whole (holding_at s at d.0 ∷ m.0) m.1 ≡ whole φs end = m.3 in
      let same : m.1 ≡ end = cc in
      record {
        code = d.0;
        next = d.1;
        fuel = f;
        rest = m.0;
        fuel_is = refl;
        stands = holding_stands x count s least at (holding_here x count s least at) d.0 d.1 refl d.2;
        is = cc;
        more = rw same at m.2;
      }
