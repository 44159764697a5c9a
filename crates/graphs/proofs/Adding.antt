-- A graph while items are added to it.
use Prim.Native.Nat.{ℕ, ◌^◌, ◌<◌}
use mathlib.Core.Path.{◌≡◌, sym}
use mathlib.Core.List.{List}
use mathlib.Core.Bool.{◌||◌}
use native.Mathlib.Omega.{arith}
use lib.ListN.{length, get_or, set, replicate, length-set}
use lib.Dec.{eqb}
use Rattle.sets.specs.Sets.{member}
use Rattle.summaries.specs.Proposal.{Claim, root, edge, string, gap_from, attribute_gap_from}
use Rattle.summaries.specs.Summaries.{Summary, says_claim}
use Rattle.summaries.specs.Inner.Listed.{HoldingFits, meaning_of}
use Rattle.summaries.specs.declared.Claim as Declared
use Rattle.summaries.specs.declared.Claim.TheVariants.{Root, Edge, String, AnyString, GapFrom, AttributeGapFrom}
use Rattle.summaries.proofs.Laws.{zeros}
use Rattle.graphs.specs.declared.Slot.{Slot}
use Rattle.graphs.specs.Inner.Graphs.{holds, InWords, Keeps, nothing, adding}
use Rattle.graphs.specs.Inner.Promises.{SlotOf}
use Rattle.graphs.proofs.Storing.{stored_narrow}
use Rattle.graphs.proofs.Slots.{holds_claim, holds_any, holds_none}

pub none_keeps : (graph : List ℕ) → graph ≡ replicate 544 0 → Keeps graph nothing
none_keeps graph e = record {
  room = rw e;
  same = λ c g. sym (holds_none graph zero_at c);
  narrow = λ i. rw (zero_at i) (omega arith);
}
  where
    zero_at : (i : ℕ) → get_or graph i 0 ≡ 0
    zero_at i = rw e (zeros 544 i)

-- A word with one bit more.
module _ (graph : List ℕ) (slot : Slot) (v : ℕ) (more : (k : ℕ) → member v k ≡ (eqb k slot.bit || member (get_or graph slot.word 0) k))
    (inside : slot.word < length graph) where
  abbrev stored : List ℕ
  stored = set graph slot.word v

  holds_then : (item : Declared.Claim) → SlotOf item slot → HoldingFits (meaning_of item) → (c : Claim) → InWords c → holds stored c ≡ (says_claim (meaning_of item) c || holds graph c)
  holds_then (Root n) is f = holds_claim graph _ v _ inside more (root n) (is.word_is f) (is.bit_is f) tt
  holds_then (Edge n g m) is f = holds_claim graph _ v _ inside more (edge n g m) (is.word_is f) (is.bit_is f) (f.0, f.1)
  holds_then (String n h t) is f = holds_claim graph _ v _ inside more (string n h t) (is.word_is f) (is.bit_is f) (f.0, f.1)
  holds_then (AnyString n h) is f = holds_any graph _ v _ inside more n h (is.word_is f) (is.bit_is f) f.1
  holds_then (GapFrom g n) is f = holds_claim graph _ v _ inside more (gap_from g n) (is.word_is f) (is.bit_is f) f.0
  holds_then (AttributeGapFrom h n) is f = holds_claim graph _ v _ inside more (attribute_gap_from h n) (is.word_is f) (is.bit_is f) f.0

pub add_keeps : (item : Declared.Claim) (graph : List ℕ) (slot : Slot) (v : ℕ) → SlotOf item slot → v < 2 ^ 64
    → ((k : ℕ) → member v k ≡ (eqb k slot.bit || member (get_or graph slot.word 0) k))
    → HoldingFits (meaning_of item) → (R : Summary) → Keeps graph R → Keeps (set graph slot.word v) (adding (meaning_of item) R)
add_keeps item graph slot v is l more fits R keeps =
    let inside : slot.word < length graph = let a = is.word_fits in let e = keeps.room in omega arith in
    record {
      room = simp length-set keeps.room;
      same = λ c g. rw (keeps.same c g) (sym (holds_then graph slot v more inside item is fits c g));
      narrow = stored_narrow graph slot.word v inside keeps.narrow l;
    }
