-- A proposal in range, written out as bytes, is read back as itself.
use Prim.Native.Nat.{ℕ, zero, suc, ◌+◌, ◌*◌, ◌-◌, ◌≤◌, ◌<◌}
use native.Mathlib.Omega.{arith}
use mathlib.Core.Path.{◌≡◌, refl, ap, sym, ◌∙◌}
use mathlib.Core.List.{List, [], ◌∷◌, ◌++◌}
use mathlib.Core.Bool.{true, false}
use lib.ListN.{length, length-append}
use borrow.Author.Tests.{le-leb, lt-ltb, le-ltb}
use Rattle.commands.specs.declared.Context.TheVariants.{Heads, TemplateHoldings, StringHoldings}
use Rattle.commands.specs.declared.Decoded.TheVariants.{Moved}
use Rattle.commands.specs.Commands.{byte, all_in_range, allowed, operands_of, operand_bytes, command}
use Rattle.commands.specs.Reading.{whole}
use Rattle.programs.specs.Program.{Variable, template_variable, string_variable}
use Rattle.summaries.specs.Proposal.{Claim, root, edge, gap_from, attribute_gap_from, Holding, claim, any_at, one_string, Head}
use Rattle.summaries.specs.ProposalReading.{holding_at, holding_there, rank, holdings, variable_of, holding_context, proposal}
use Rattle.round_trip.specs.WrittenJob.{written_holding, written_holdings, written_variable, written_head, written_proposal}
use Rattle.round_trip.specs.InRange.{Bytes}
use Rattle.round_trip.specs.JobInRange.{Lexicographic, RisingBy, HoldingInRange, HoldingsInRange, VariableInRange, HeadsInRange, head_key, ProposalInRange}
use Rattle.round_trip.proofs.Rests.{Rest, head, byte_at, first, behind, grouped, taken, ends_at}
use Rattle.round_trip.proofs.JobBytes.{holding_bytes, variable_small}
use Rattle.round_trip.proofs.Order.{number, after, pair_after, First, first_map, first_all, rising_first}

-- What is read where an item was written.
record Held (v : Variable) (count : ℕ) (s : List ℕ) (at : ℕ) (h : Holding) (bytes : ℕ) : Type 0 where
  code : ℕ
  stands : allowed (holding_context v) (byte s at) ≡ true
  goes : command (holding_context v) s at ≡ Moved code (record { at = at + bytes })
  onward : 0 < bytes
  is : holding_at s at code ≡ h
  there : holding_there count h ≡ true
  ranked : rank s at code ≡ number 4 (written_holding h)

module _ (count : ℕ) (s : List ℕ) (at : ℕ) where
  holds : {h : Holding} (v : Variable) (c : ℕ) {o : List ℕ} → Rest s at (c ∷ o) → allowed (holding_context v) c ≡ true → operand_bytes c ≤ length o
      → all_in_range (operands_of c) (c ∷ o) 1 ≡ true → holding_at s at c ≡ h → holding_there count h ≡ true → rank s at c ≡ number 4 (written_holding h)
      → Held v count s at h (suc (operand_bytes c))
  holds v c {o} r a fits ranges is there ranked = record {
    code = c;
    stands = rw (first r) a;
    goes = taken (holding_context v) c o r a fits ranges;
    onward = omega arith;
    is = is;
    there = there;
    ranked = ranked;
  }

  held : (w : List ℕ) (v : Variable) (h : Holding) → HoldingInRange count v h → Rest s at (written_holding h ++ w) → Held v count s at h (length (written_holding h))
  unfolding allowed operand_bytes operands_of all_in_range rank
  held w (template_variable x) (claim (root t)) i r =
      holds (template_variable x) 0x41 r refl (omega arith) refl (rw (byte_at 1 r)) (le-leb t count i) (rw (byte_at 1 r) (omega arith))
  held w (template_variable x) (claim (edge n g t)) i r =
      holds (template_variable x) 0x42 r refl (omega arith) (rw (le-leb g 7 i.1)) (rw (byte_at 1 r, byte_at 2 r, byte_at 3 r)) (rw (le-leb n count i.0, le-leb t count i.2))
      (rw (byte_at 1 r, byte_at 2 r, byte_at 3 r) (omega arith))
  held w (template_variable x) (claim (Claim.string n h t)) i r =
      holds (template_variable x) 0x43 r refl (omega arith) (rw (le-leb h 7 i.1, lt-ltb t 64 i.2)) (rw (byte_at 1 r, byte_at 2 r, byte_at 3 r)) (le-leb n count i.0)
      (rw (byte_at 1 r, byte_at 2 r, byte_at 3 r) (omega arith))
  held w (template_variable x) (any_at n h) i r =
      holds (template_variable x) 0x44 r refl (omega arith) (rw (le-leb h 7 i.1)) (rw (byte_at 1 r, byte_at 2 r)) (le-leb n count i.0) (rw (byte_at 1 r, byte_at 2 r) (omega arith))
  held w (template_variable x) (claim (gap_from g n)) i r =
      holds (template_variable x) 0x45 r refl (omega arith) (rw (le-leb g 7 i.0)) (rw (byte_at 1 r, byte_at 2 r)) (le-leb n count i.1) (rw (byte_at 1 r, byte_at 2 r) (omega arith))
  held w (template_variable x) (claim (attribute_gap_from h n)) i r =
      holds (template_variable x) 0x46 r refl (omega arith) (rw (le-leb h 7 i.0)) (rw (byte_at 1 r, byte_at 2 r)) (le-leb n count i.1) (rw (byte_at 1 r, byte_at 2 r) (omega arith))
  held w (template_variable x) (one_string t) i r = absurd i
  held w (template_variable x) Holding.any_string i r = absurd i
  held w (string_variable y) (claim c) i r = absurd i
  held w (string_variable y) (any_at n h) i r = absurd i
  held w (string_variable y) (one_string t) i r =
      holds (string_variable y) 0x47 r refl (omega arith) (rw (lt-ltb t 64 i)) (rw (byte_at 1 r)) refl (rw (byte_at 1 r) (omega arith))
  held w (string_variable y) Holding.any_string i r = holds (string_variable y) 0x48 r refl (omega arith) refl refl refl (omega arith)

-- The first byte of an item tells how many follow.
record Coded (h : Holding) : Type 0 where
  code : ℕ
  operands : List ℕ
  is : written_holding h ≡ code ∷ operands
  count : length operands ≡ operand_bytes code
  few : length operands ≤ 3

coded : (h : Holding) → Coded h
unfolding operand_bytes operands_of
coded (claim (root t)) = record { code = 0x41; operands = t ∷ []; is = refl; count = refl; few = omega arith }
coded (claim (edge n g t)) = record { code = 0x42; operands = n ∷ g ∷ t ∷ []; is = refl; count = refl; few = omega arith }
coded (claim (Claim.string n h t)) = record { code = 0x43; operands = n ∷ h ∷ t ∷ []; is = refl; count = refl; few = omega arith }
coded (any_at n h) = record { code = 0x44; operands = n ∷ h ∷ []; is = refl; count = refl; few = omega arith }
coded (claim (gap_from g n)) = record { code = 0x45; operands = g ∷ n ∷ []; is = refl; count = refl; few = omega arith }
coded (claim (attribute_gap_from h n)) = record { code = 0x46; operands = h ∷ n ∷ []; is = refl; count = refl; few = omega arith }
coded (one_string t) = record { code = 0x47; operands = t ∷ []; is = refl; count = refl; few = omega arith }
coded Holding.any_string = record { code = 0x48; operands = []; is = refl; count = refl; few = omega arith }

holding_after : (h h' : Holding) → Bytes (written_holding h) → Lexicographic (written_holding h) (written_holding h') → number 4 (written_holding h) < number 4 (written_holding h')
holding_after h h' b k =
    let a = coded h in
    let a' = coded h' in
    rw (a.is, a'.is)
    (after 3 a.code a.operands a'.code a'.operands (λ e. a.count ∙ ap operand_bytes e ∙ sym a'.count) a.few (rw a.is at b) (rw (a.is, a'.is) at k))

-- The items under a head are read back, if what stands behind is none.
module _ (count : ℕ) (c : count ≤ 31) where
  reads_holdings : (f : ℕ) (v : Variable) (least : ℕ) (hs : List Holding) → HoldingsInRange count v hs → RisingBy written_holding hs
      → First (λ h. least ≤ number 4 (written_holding h)) hs → (s : List ℕ) (at : ℕ) (w : List ℕ) → allowed (holding_context v) (head w) ≡ false
      → Rest s at (written_holdings hs ++ w) → length s < at + f
      → holdings f (holding_context v) count s least at ≡ whole hs (at + length (written_holdings hs))
  unfolding holdings written_holdings HoldingsInRange
  reads_holdings zero v least hs i o l s at w e r h = absurd (omega arith)
  reads_holdings (suc f) v least [] i o l s at w e r h = rw (first r, e) (ends_at refl (omega arith))
  reads_holdings (suc f) v least (φ ∷ hs) i o l s at w e r h =
      let u = written_holding φ in
      let r₁ = grouped u (written_holdings hs) w r in
      let d = held count s at (written_holdings hs ++ w) v φ i.0 r₁ in
      let rest = rising_first written_holding φ hs o in
      let b = holding_bytes count 0 c (omega arith) v φ i.0 in
      let next : First (λ φ'. rank s at d.code + 1 ≤ number 4 (written_holding φ')) hs =
      first_map (λ φ' k. let lt = holding_after φ φ' b k in omega (arith, d.ranked)) hs rest.0 in
      rw (
        d.stands,
        d.goes,
        d.is,
        d.there,
        le-leb least (rank s at d.code) (omega (arith, d.ranked)),
        reads_holdings f v (rank s at d.code + 1) hs i.1 rest.1 next s (at + length u) w e (behind u r₁) (omega (arith, d.onward)),
      )
      (ends_at refl (omega (arith, length-append u (written_holdings hs))))

-- The variable of a head, by the number that was written for it.
variable_back : (v : Variable) → VariableInRange v → variable_of (written_variable v) ≡ v
variable_back (template_variable x) i = rw (lt-ltb x 4 (omega arith))
variable_back (string_variable y) i =
    let e : 4 + y - 4 ≡ y = omega arith in
    rw (le-ltb (4 + y) 4 (omega arith), e)

-- `40` and `4F` are no items.
no_item : (v : Variable) (c : ℕ) → allowed TemplateHoldings c ≡ false → allowed StringHoldings c ≡ false → allowed (holding_context v) c ≡ false
no_item (template_variable x) c p q = p
no_item (string_variable y) c p q = q

heads_no_item : (v : Variable) (hs : List Head) (w : List ℕ) → allowed (holding_context v) (head (written_proposal hs ++ w)) ≡ false
unfolding written_proposal allowed
heads_no_item v [] w = no_item v 0x4F refl refl
heads_no_item v (h ∷ hs) w = no_item v 0x40 refl refl

module _ (count points : ℕ) (c : count ≤ 31) where
  reads_heads : (f least : ℕ) (hs : List Head) → HeadsInRange count points hs → RisingBy head_key hs
      → First (λ h. least ≤ h.point * 8 + written_variable h.variable) hs → (s : List ℕ) (at : ℕ) (w : List ℕ)
      → Rest s at (written_proposal hs ++ w) → length s < at + f
      → proposal f count points s least at ≡ whole hs (at + length (written_proposal hs))
  unfolding proposal written_proposal HeadsInRange allowed operand_bytes operands_of all_in_range
  reads_heads zero least hs i o l s at w r h = absurd (omega arith)
  reads_heads (suc f) least [] i o l s at w r h = rw (taken Heads 0x4F _ r refl (omega arith) refl)
  reads_heads (suc f) least (x ∷ hs) i o l s at w r h =
      let u = written_head x in
      let p = x.point in
      let v = written_variable x.variable in
      let small : v ≤ 7 = variable_small x.variable i.0.variable in
      let after : List ℕ = written_proposal hs ++ w in
      let r₁ = grouped u (written_proposal hs) w r in
      let r₂ = behind (0x40 ∷ p ∷ v ∷ []) r₁ in
      let zero_least : First (λ φ. 0 ≤ number 4 (written_holding φ)) x.holdings = first_all (λ φ. omega arith) x.holdings in
      let rest = rising_first head_key x hs o in
      let next : First (λ x'. p * 8 + v + 1 ≤ x'.point * 8 + written_variable x'.variable) hs =
      first_map (λ x' k. let lt = pair_after p v x'.point (written_variable x'.variable) small k in omega arith) hs rest.0 in
      rw (
        taken Heads 0x40 _ r₁ refl (omega arith) (rw (le-leb v 7 small)),
        byte_at 1 r₁,
        byte_at 2 r₁,
        lt-ltb p points i.0.point,
        le-leb least (p * 8 + v) l,
        variable_back x.variable i.0.variable,
        reads_holdings count c f x.variable 0 x.holdings i.0.holdings i.0.rising zero_least s (at + 3) after (heads_no_item x.variable hs w) r₂ (omega arith),
        reads_heads f (p * 8 + v + 1) hs i.1 rest.1 next s (at + 3 + length (written_holdings x.holdings)) w (behind (written_holdings x.holdings) r₂) (omega arith),
      )
      (ends_at refl (omega (arith, length-append u (written_proposal hs))))

  pub reads_proposal : (f : ℕ) (hs : List Head) → ProposalInRange count points hs → (s : List ℕ) (at : ℕ) (w : List ℕ) → Rest s at (written_proposal hs ++ w) → length s < at + f
      → proposal f count points s 0 at ≡ whole hs (at + length (written_proposal hs))
  reads_proposal f hs i = reads_heads f 0 hs i.heads i.rising (first_all (λ x. omega arith) hs)
