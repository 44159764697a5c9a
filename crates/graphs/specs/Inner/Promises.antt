-- The steps on the way: where an item stands among the words, what is added and taken at one gap, and joining.
use Rattle.std.specs.Prelude.{ℕ, ◌+◌, ◌*◌, ◌^◌, ◌<◌, ◌≡◌, List, Bool, false, not, cond, ◌&&◌, ◌||◌, eqb, get_or, set}
use Rattle.sets.specs.Sets.{member}
use Rattle.summaries.specs.Proposal.{root, edge, string, gap_from, attribute_gap_from}
use Rattle.summaries.specs.Summaries.{Summary}
use Rattle.summaries.specs.declared.Claim as Declared
use Rattle.summaries.specs.declared.Claim.TheVariants.{Root, Edge, String, AnyString, GapFrom, AttributeGapFrom}
use Rattle.summaries.specs.Inner.Listed.{HoldingFits, meaning_of}
use Rattle.graphs.specs.declared.Slot.{Slot}
use Rattle.graphs.specs.Inner.Graphs.{holding_word, holding_bit, Keeps}
use Rattle.graphs.specs.Inner.Growth.{Grows}

-- The word and the bit of an item; in range in any case.
pub record SlotOf (c : Declared.Claim) (slot : Slot) : Type 0 where
  pub word_fits : slot.word < 544
  pub bit_fits : slot.bit < 64
  pub word_is : HoldingFits (meaning_of c) → slot.word ≡ holding_word (meaning_of c)
  pub bit_is : HoldingFits (meaning_of c) → slot.bit ≡ holding_bit (meaning_of c)

-- The other word in which what an item says may be held: of a string that of any string at its place, and the other way round.
abbrev pub OtherWord : Declared.Claim → ℕ → Type 0
OtherWord (Root n) w = Unit {0}
OtherWord (Edge n g m) w = Unit {0}
OtherWord (String n h s) w = h < 8 → w ≡ 17 + h
OtherWord (AnyString n h) w = n < 32 → h < 8 → w ≡ 288 + n * 8 + h
OtherWord (GapFrom g n) w = Unit {0}
OtherWord (AttributeGapFrom h n) w = Unit {0}

-- A summary with edges of gap g to some templates, or strings at attribute gap g, added at the templates of a set.
abbrev pub added_at : Bool → ℕ → (ℕ → Bool) → (ℕ → Bool) → Summary → Summary
added_at attribute g more is_in R (root n) = R (root n)
added_at attribute g more is_in R (edge n k m) = R (edge n k m) || cond attribute false (eqb k g && (more m && is_in n))
added_at attribute g more is_in R (string n k s) = R (string n k s) || cond attribute (eqb k g && (more s && is_in n)) false
added_at attribute g more is_in R (gap_from k n) = R (gap_from k n)
added_at attribute g more is_in R (attribute_gap_from k n) = R (attribute_gap_from k n)

-- A summary without its roots; without the origins of gap g; without those of attribute gap h.
abbrev pub rootless : Summary → Summary
rootless R (root n) = false
rootless R (edge n k m) = R (edge n k m)
rootless R (string n k s) = R (string n k s)
rootless R (gap_from k n) = R (gap_from k n)
rootless R (attribute_gap_from k n) = R (attribute_gap_from k n)

abbrev pub without_gap : ℕ → Summary → Summary
without_gap g R (root n) = R (root n)
without_gap g R (edge n k m) = R (edge n k m)
without_gap g R (string n k s) = R (string n k s)
without_gap g R (gap_from k n) = not (eqb k g) && R (gap_from k n)
without_gap g R (attribute_gap_from k n) = R (attribute_gap_from k n)

abbrev pub without_attribute_gap : ℕ → Summary → Summary
without_attribute_gap h R (root n) = R (root n)
without_attribute_gap h R (edge n k m) = R (edge n k m)
without_attribute_gap h R (string n k s) = R (string n k s)
without_attribute_gap h R (gap_from k n) = R (gap_from k n)
without_attribute_gap h R (attribute_gap_from k n) = not (eqb k h) && R (attribute_gap_from k n)

-- One word gains the members of another: those that it lacked.
pub record JoinsWord (before : List ℕ) (i more : ℕ) (after : List ℕ) (gained : ℕ) : Type 0 where
  pub word : ℕ
  pub word_fits : word < 2 ^ 64
  pub after_is : after ≡ set before i word
  pub either : (k : ℕ) → member word k ≡ (member (get_or before i 0) k || member more k)
  pub gained_fits : gained < 2 ^ 64
  pub gains : (k : ℕ) → member gained k ≡ (member more k && not (member (get_or before i 0) k))

-- The graph holds what either held, and its words have grown.
pub record Joins (before from after : List ℕ) (changed : Bool) : Type 0 where
  pub keeps : (R S : Summary) → Keeps before R → Keeps from S → Keeps after (λ c. R c || S c)
  pub grows : (R : Summary) → Keeps before R → Grows before after changed
