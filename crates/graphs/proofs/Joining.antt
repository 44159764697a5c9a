-- Two graphs joined, word by word.
use Prim.Native.Nat.{ℕ, ◌+◌, ◌*◌, ◌^◌, ◌≤◌, ◌<◌}
use mathlib.Core.Path.{◌≡◌, refl, sym, ap, ◌∙◌}
use mathlib.Core.List.{List}
use mathlib.Core.Bool.{Bool, true, false, not, ◌&&◌, ◌||◌, or_assoc, or_comm}
use native.Mathlib.Omega.{arith}
use lib.ListN.{length, get_or, set, length-set}
use lib.Seq.{get_or-set_same, get_or-set_other}
use lib.Dec.{eqb}
use borrow.Author.Tests.{eqb-true, eqb-false, eq-eqb}
use Rattle.sets.specs.Sets.{member}
use Rattle.sets.proofs.Laws.{member_zero, same_members}
use Rattle.sets.proofs.Members.{no_members}
use Rattle.summaries.specs.Proposal.{Claim, root, edge, string, gap_from, attribute_gap_from, claim, any_at}
use Rattle.summaries.specs.Summaries.{Summary}
use Rattle.graphs.specs.Inner.Graphs.{is_kept, holds, InWords, Keeps}
use Rattle.graphs.specs.Inner.Growth.{Grows}
use Rattle.graphs.specs.Inner.Promises.{JoinsWord, Joins}
use Rattle.sets.proofs.Booleans.{or_left, alike, never_lacks, or_within}
use Rattle.graphs.proofs.Storing.{stored_narrow}
use Rattle.graphs.proofs.Growth.{members_more, grows_gained, word_grows}

-- ---- one word

none_lacked : (a b : Bool) → (a || b) ≡ a → (b && not a) ≡ false
none_lacked true true e = refl
none_lacked false true e = e
none_lacked a false e = refl

module _ (before : List ℕ) (i more : ℕ) (after : List ℕ) (gained : ℕ) (J : JoinsWord before i more after gained) (fits : get_or before i 0 < 2 ^ 64) where
  -- The word gains nothing just where it is as it was.
  unchanged_word : eqb gained 0 ≡ eqb J.word (get_or before i 0)
  unchanged_word = alike _ _ (λ e. eq-eqb _ _ (same e)) (λ e. eq-eqb gained 0 (none e))
    where
      same : eqb gained 0 ≡ true → J.word ≡ get_or before i 0
      same e = same_members 64 J.word (get_or before i 0) J.word_fits fits λ k l.
          J.either k ∙ or_within _ _ (never_lacks (member more k) _ (sym (J.gains k) ∙ rw (eqb-true gained 0 e) (member_zero k)))

      none : eqb J.word (get_or before i 0) ≡ true → gained ≡ 0
      none e = no_members gained J.gained_fits λ k l.
          J.gains k ∙ none_lacked _ (member more k) (sym (J.either k) ∙ ap (λ (n : ℕ). member n k) (eqb-true J.word (get_or before i 0) e))

  pub word_joined : i < length before → Grows before after (not (eqb gained 0))
  word_joined inside =
      rw (J.after_is, unchanged_word) (word_grows before i J.word inside (members_more 64 (get_or before i 0) J.word fits λ k e. J.either k ∙ or_left _ _ e))

-- ---- word by word

-- The words before a place are joined.
pub record JoinedTo (before from now : List ℕ) (i gained : ℕ) : Type 0 where
  pub joined : (k : ℕ) → k < i → (b : ℕ) → member (get_or now k 0) b ≡ (member (get_or before k 0) b || member (get_or from k 0) b)
  pub rest : (k : ℕ) → i ≤ k → get_or now k 0 ≡ get_or before k 0
  pub room : length now ≡ 544
  pub narrow : (k : ℕ) → get_or now k 0 < 2 ^ 64
  pub gained_fits : gained < 2 ^ 64
  pub grows : Grows before now (not (eqb gained 0))

pub joining_goes : (before from now after : List ℕ) (i gained more both : ℕ) → i < 544 → JoinedTo before from now i gained → JoinsWord now i (get_or from i 0) after more
    → both < 2 ^ 64 → ((k : ℕ) → member both k ≡ (member gained k || member more k)) → JoinedTo before from after (i + 1) both
joining_goes before from now after i gained more both low J W both_fits either = record {
  joined = λ k l b. rw W.after_is (here k l b (eqb k i) refl);
  rest = λ k l. rw W.after_is (get_or-set_other now i k W.word 0 (λ e. omega arith) ∙ J.rest k (omega arith));
  room = rw W.after_is (length-set now i W.word ∙ J.room);
  narrow = rw W.after_is (stored_narrow now i W.word inside J.narrow W.word_fits);
  gained_fits = both_fits;
  grows = grows_gained gained more both J.gained_fits W.gained_fits both_fits either before now after J.grows (word_joined now i _ after more W (J.narrow i) inside);
}
  where
    inside : i < length now
    inside = omega (arith, J.room)

    here : (k : ℕ) → k < i + 1 → (b : ℕ) (e : Bool) → eqb k i ≡ e → member (get_or (set now i W.word) k 0) b ≡ (member (get_or before k 0) b || member (get_or from k 0) b)
    here k l b true e =
        let q : k ≡ i = eqb-true k i e in
        rw (q, get_or-set_same now i W.word 0 inside, W.either b, J.rest i (omega arith))
    here k l b false e =
        let q = eqb-false k i e in
        get_d_swap ∙ J.joined k (omega arith) b
      where
        get_d_swap : member (get_or (set now i W.word) k 0) b ≡ member (get_or now k 0) b
        get_d_swap = rw (get_or-set_other now i k W.word 0 (eqb-false k i e))

pub shuffle : (a b c d : Bool) → ((a || b) || (c || d)) ≡ ((a || c) || (b || d))
shuffle true b c d = refl
shuffle false b c d = sym (or_assoc b c d) ∙ rw (or_comm b c) (or_assoc c b d)

-- Where each word is joined, what either held is held.
pub holds_joined : (before from now : List ℕ) → ((k : ℕ) → k < 544 → (b : ℕ) → member (get_or now k 0) b ≡ (member (get_or before k 0) b || member (get_or from k 0) b))
    → (c : Claim) → InWords c → holds now c ≡ (holds before c || holds from c)
holds_joined before from now here (root n) w = here 0 (omega arith) n
holds_joined before from now here (edge n g m) w = let a = w.0 in let b = w.1 in here (32 + n * 8 + g) (omega arith) m
holds_joined before from now here (string n h s) w =
    let a = w.0 in
    let b = w.1 in
    rw (here (17 + h) (omega arith) n, here (288 + n * 8 + h) (omega arith) s)
    (shuffle (is_kept before (any_at n h)) (is_kept from (any_at n h)) (is_kept before (claim (string n h s))) (is_kept from (claim (string n h s))))
holds_joined before from now here (gap_from g n) w = here (1 + g) (omega arith) n
holds_joined before from now here (attribute_gap_from h n) w = here (9 + h) (omega arith) n

module _ (before from now : List ℕ) (i gained : ℕ) (l : 544 ≤ i) (J : (R : Summary) → Keeps before R → JoinedTo before from now i gained) where
  pub joining_ends : Joins before from now (not (eqb gained 0))
  joining_ends = record {
    keeps = λ R S K L. record {
      room = (J R K).room;
      same = λ c w. rw (K.same c w, L.same c w) (sym (holds_joined before from now (λ k m. (J R K).joined k (omega arith)) c w));
      narrow = (J R K).narrow;
    };
    grows = λ R K. (J R K).grows;
  }
