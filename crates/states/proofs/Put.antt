-- An entry of the work area joined with more: the words of the others are apart from its own.
use Prim.Native.Nat.{ℕ, ◌+◌, ◌^◌, ◌≤◌, ◌<◌}
use mathlib.Core.Path.{◌≡◌, refl, sym, ap, ◌∙◌}
use mathlib.Core.List.{List, [], ◌∷◌}
use mathlib.Core.Bool.{Bool, true, false, not, ◌&&◌, ◌||◌, or-true, or_assoc}
use mathlib.Core.Logic.{◌⊎◌, inl, inr}
use native.Mathlib.Omega.{arith}
use lib.ListN.{length, get_or, set, take, drop, length-take, length-drop}
use lib.Seq.{set-get_or, get_or-set_same, get_or-set_other, ext_get_or, get_or-take, get_or-drop}
use lib.Dec.{eqb, ltb}
use borrow.Author.Tests.{eqb-true, eqb-false, ltb-true, ltb-false}
use Rattle.sets.specs.Sets.{member}
use Rattle.sets.specs.Inner.Promises.{MembersWithin}
use Rattle.strings.specs.declared.StringSet.{StringSet}
use Rattle.strings.specs.declared.Values.TheVariants.{Any, Named}
use Rattle.summaries.specs.Proposal.{Claim}
use Rattle.graphs.specs.Inner.Graphs.{holds}
use Rattle.graphs.specs.Inner.Promises.{JoinsWord}
use Rattle.graphs.specs.Inner.Growth.{Grows}
use Rattle.graphs.proofs.Joining.{word_joined, holds_joined}
use Rattle.graphs.proofs.Growth.{unchanged_grows, grows_gained}
use Rattle.sets.proofs.Booleans.{or_within}
use Rattle.memory.specs.Inner.Laid.{laid}
use Rattle.memory.proofs.Laid.{laid_there, laid_after, laid_before}
use Rattle.states.specs.Inner.States.{graph_place, strings_place, graph_words, in_words, entries_in}
use Rattle.states.specs.Inner.Promises.{HasPoint, string_words, LiesWithin, GraphJoined, ValuesJoined}
use Rattle.states.proofs.Entries.{template_entry, string_entry, template_same, string_same, word_first, word_second, words_in, graph_word}

-- Two parts of a list that do not meet.
abbrev Apart : ℕ → ℕ → ℕ → ℕ → Type 0
Apart at n k m = (k + m ≤ at) ⊎ (at + n ≤ k)

part_same : (out : List ℕ) (at : ℕ) (bs : List ℕ) (k m : ℕ) → Apart at (length bs) k m → take m (drop k (laid out at bs)) ≡ take m (drop k out)
part_same out at bs k m (inl l) = laid_before out at bs k m l
part_same out at bs k m (inr l) = ap (take m) (laid_after out at bs k l)

side : (a b : ℕ) → (a < b) ⊎ ((b < a) ⊎ (a ≡ b))
side a b = go (ltb a b) (ltb b a) refl refl
  where
    go : (t u : Bool) → ltb a b ≡ t → ltb b a ≡ u → (a < b) ⊎ ((b < a) ⊎ (a ≡ b))
    go true u e f = inl (ltb-true a b e)
    go false true e f = inr (inl (ltb-true b a f))
    go false false e f = inr (inr (omega (arith, ltb-false a b e, ltb-false b a f)))

graphs_apart : (p x q z : ℕ) → x < 4 → z < 4 → ((q ≡ p) × (z ≡ x) → ⊥) → Apart (graph_place p x) 544 (graph_place q z) 544
graphs_apart p x q z l m other = elim (side q p) [
  | inl a ↦ inl (omega arith)
  | inr (inl a) ↦ inr (omega arith)
  | inr (inr a) ↦ elim (side z x) [
    | inl b ↦ inl (omega arith)
    | inr (inl b) ↦ inr (omega arith)
    | inr (inr b) ↦ absurd (other (a, b))
  ]
]

strings_apart : (p y q z : ℕ) → y < 4 → z < 4 → ((q ≡ p) × (z ≡ y) → ⊥) → Apart (strings_place p y) 2 (strings_place q z) 2
strings_apart p y q z l m other = elim (side q p) [
  | inl a ↦ inl (omega arith)
  | inr (inl a) ↦ inr (omega arith)
  | inr (inr a) ↦ elim (side z y) [
    | inl b ↦ inl (omega arith)
    | inr (inl b) ↦ inr (omega arith)
    | inr (inr b) ↦ absurd (other (a, b))
  ]
]

string_apart : (p x q y : ℕ) → x < 4 → y < 4 → Apart (graph_place p x) 544 (strings_place q y) 2
string_apart p x q y l m = elim (side q p) [
  | inl a ↦ inl (omega arith)
  | inr (inl a) ↦ inr (omega arith)
  | inr (inr a) ↦ inr (omega arith)
]

graph_apart : (p y q x : ℕ) → y < 4 → x < 4 → Apart (strings_place p y) 2 (graph_place q x) 544
graph_apart p y q x l m = elim (side q p) [
  | inl a ↦ inl (omega arith)
  | inr (inl a) ↦ inr (omega arith)
  | inr (inr a) ↦ inl (omega arith)
]

-- Words of a graph are joined to those of an entry, one after another.
pub record RowJoined (work from : List ℕ) (first i : ℕ) (now : List ℕ) (gained : ℕ) : Type 0 where
  pub joined : (k : ℕ) → k < i → (b : ℕ) → member (get_or now (first + k) 0) b ≡ (member (get_or work (first + k) 0) b || member (get_or from k 0) b)
  pub rest : (k : ℕ) → (k < first) ⊎ (first + i ≤ k) → get_or now k 0 ≡ get_or work k 0
  pub gained_fits : gained < 2 ^ 64
  pub grows : Grows work now (not (eqb gained 0))

module _ (work from : List ℕ) (first : ℕ) where
  -- Words that hold what is to be joined are joined as they are.
  row_holds : (i : ℕ) → ((k : ℕ) → k < i → MembersWithin (get_or from k 0) (get_or work (first + k) 0) true) → RowJoined work from first i work 0
  row_holds i within = record { joined = λ k l b. sym (or_within _ _ (within k l b)); rest = λ k s. refl; gained_fits = omega arith; grows = unchanged_grows work }

  pub row_begins : RowJoined work from first 0 work 0
  row_begins = row_holds 0 λ k l. absurd (omega arith)

  pub row_goes : (now after : List ℕ) (i more s t both : ℕ) → first + i < length work → more ≡ get_or from i 0 → RowJoined work from first i now s → JoinsWord now (first + i) more after t × (get_or now (first + i) 0 < 2 ^ 64)
      → both < 2 ^ 64 → ((k : ℕ) → member both k ≡ (member s k || member t k)) → RowJoined work from first (i + 1) after both
  row_goes now after i more s t both inside is R (J, fits) both_fits either =
      let room : first + i < length now = omega (arith, R.grows.same_length) in
      record {
        joined = λ k l b. here k l b (eqb k i) refl;
        rest = λ k side. rw J.after_is (get_or-set_other now (first + i) k J.word 0 (apart k side) ∙ R.rest k (wider k side));
        gained_fits = both_fits;
        grows = grows_gained s t both R.gained_fits J.gained_fits both_fits either work now after R.grows (word_joined now (first + i) more after t J fits room);
      }
    where
      apart : (k : ℕ) → (k < first) ⊎ (first + (i + 1) ≤ k) → k ≡ first + i → ⊥
      apart k (inl l) e = omega arith
      apart k (inr l) e = omega arith

      wider : (k : ℕ) → (k < first) ⊎ (first + (i + 1) ≤ k) → (k < first) ⊎ (first + i ≤ k)
      wider k (inl l) = inl l
      wider k (inr l) = inr (omega arith)

      here : (k : ℕ) → k < i + 1 → (b : ℕ) (e : Bool) → eqb k i ≡ e → member (get_or after (first + k) 0) b ≡ (member (get_or work (first + k) 0) b || member (get_or from k 0) b)
      here k l b true e =
          let q : k ≡ i = eqb-true k i e in
          rw (q, J.after_is, get_or-set_same now (first + i) J.word 0 (omega (arith, inside, R.grows.same_length)), J.either b, is, R.rest (first + i) (inr (omega arith)))
      here k l b false e =
          let q = eqb-false k i e in
          rw (J.after_is, get_or-set_other now (first + i) (first + k) J.word 0 (λ f. q (omega arith))) (R.joined k (omega arith) b)

module _ (work : List ℕ) (p x : ℕ) (has : HasPoint work p) (l : x < 4) where
  -- Two words laid as those of a string variable.
  record WordsPut (a b : ℕ) (after : List ℕ) : Type 0 where
    here : (points : ℕ) → p < points → (s : ℕ) → (entries_in points after p).string x s ≡ (member b 0 || member a s)
    others : (points q z : ℕ) → ((q ≡ p) × (z ≡ x) → ⊥) → (s : ℕ) → (entries_in points after q).string z s ≡ (entries_in points work q).string z s
    templates : (points q z : ℕ) → (c : Claim) → (entries_in points after q).template z c ≡ (entries_in points work q).template z c

  words_put : (a b : ℕ) (after : List ℕ) → after ≡ laid work (strings_place p x) (a ∷ b ∷ []) → WordsPut a b after
  words_put a b after is =
      let words : string_words after p x ≡ a ∷ b ∷ [] = rw is (laid_there work (strings_place p x) (a ∷ b ∷ []) (omega arith)) in
      record {
        here = λ points m s. string_entry points after p x m l s ∙ rw (word_first after p x, word_second after p x, words);
        others = λ points q z other. string_same points work after q z λ u v. rw is (part_same work (strings_place p x) (a ∷ b ∷ []) (strings_place q z) 2 (strings_apart p x q z l v other));
        templates = λ points q z. template_same points work after q z λ u v. rw is (part_same work (strings_place p x) (a ∷ b ∷ []) (graph_place q z) 544 (graph_apart p x q z l v));
      }

  module _ (first : ℕ) (at : first ≡ strings_place p x) (after : List ℕ) (gained : ℕ) where
    pub any_joined : JoinsWord work (first + 1) 1 after gained × (get_or work (first + 1) 0 < 2 ^ 64) → ValuesJoined work p x Any after (not (eqb gained 0))
    unfolding laid member
    any_joined (J, fits) =
        let laid_so : after ≡ laid work (strings_place p x) (get_or work (strings_place p x) 0 ∷ J.word ∷ []) = rw (← at, J.after_is, set-get_or work first 0) in
        let W = words_put (get_or work (strings_place p x) 0) J.word after laid_so in
        let held : member J.word 0 ≡ true = J.either 0 ∙ or-true (member (get_or work (first + 1) 0) 0) in
        record {
          here = λ points m r. W.here points m r ∙ rw held (sym (or-true ((entries_in points work p).string x r)));
          others = W.others;
          templates = W.templates;
          grows = word_joined work (first + 1) 1 after gained J fits (omega arith);
        }

    pub named_joined : (more : StringSet) → JoinsWord work first more.word after gained × (get_or work first 0 < 2 ^ 64) → ValuesJoined work p x (Named more) after (not (eqb gained 0))
    unfolding laid
    named_joined more (J, fits) =
        let other : get_or (set work first J.word) (first + 1) 0 ≡ get_or work (first + 1) 0 = get_or-set_other work first (first + 1) J.word 0 (λ e. omega arith) in
        let laid_so : after ≡ laid work (strings_place p x) (J.word ∷ get_or work (strings_place p x + 1) 0 ∷ []) =
        rw (← at, J.after_is, ← other) (sym (set-get_or (set work first J.word) (first + 1) 0)) in
        let W = words_put J.word (get_or work (strings_place p x + 1) 0) after laid_so in
        record {
          here = λ points m r. W.here points m r
              ∙ rw (J.either r, at) (sym (or_assoc (member (get_or work (strings_place p x + 1) 0) 0) (member (get_or work (strings_place p x) 0) r) (member more.word r))
              ∙ sym (ap (λ (b : Bool). b || member more.word r) (string_entry points work p x m l r)));
          others = W.others;
          templates = W.templates;
          grows = word_joined work first more.word after gained J fits (omega arith);
        }

  -- Words that are the same outside the entry's own.
  module _ (after : List ℕ) (same : (k : ℕ) → (k < graph_place p x) ⊎ (graph_place p x + 544 ≤ k) → get_or after k 0 ≡ get_or work k 0) (room : length after ≡ length work) where
    part_kept : (k m : ℕ) → Apart (graph_place p x) 544 k m → take m (drop k after) ≡ take m (drop k work)
    part_kept k m a = ext_get_or 0 (take m (drop k after)) (take m (drop k work)) same_size λ i h.
        let low : i < m = omega (arith, h, length-take m (drop k after)) in
        get_or-take m (drop k after) i 0 low ∙ get_or-drop k after i 0 ∙ same (k + i) (outside i low a) ∙ sym (get_or-drop k work i 0) ∙ sym (get_or-take m (drop k work) i 0 low)
      where
        same_size : length (take m (drop k after)) ≡ length (take m (drop k work))
        same_size = rw (length-take m (drop k after), length-take m (drop k work), length-drop k after, length-drop k work, room)

        outside : (i : ℕ) → i < m → Apart (graph_place p x) 544 k m → (k + i < graph_place p x) ⊎ (graph_place p x + 544 ≤ k + i)
        outside i low (inl b) = inl (omega arith)
        outside i low (inr b) = inr (omega arith)

  pub row_ends : (from after : List ℕ) (first gained : ℕ) → first ≡ graph_place p x → RowJoined work from first 544 after gained → GraphJoined work p x from after (not (eqb gained 0))
  row_ends from after first gained at R =
      let same : (k : ℕ) → (k < graph_place p x) ⊎ (graph_place p x + 544 ≤ k) → get_or after k 0 ≡ get_or work k 0 = λ k s. R.rest k (rw at s) in
      let room : length after ≡ length work = R.grows.same_length in
      record {
        here = λ points m c. template_entry points after p x m l c ∙ held c (in_words c) refl ∙ sym (ap (λ (b : Bool). b || (in_words c && holds from c)) (template_entry points work p x m l c));
        others = λ points q z other. template_same points work after q z λ u v. part_kept after same room (graph_place q z) 544 (graphs_apart p x q z l v other);
        strings = λ points q y. string_same points work after q y λ u v. part_kept after same room (strings_place q y) 2 (string_apart p x q y l v);
        grows = R.grows;
      }
    where
      word : (k : ℕ) → k < 544 → (b : ℕ) → member (get_or (graph_words after p x) k 0) b ≡ (member (get_or (graph_words work p x) k 0) b || member (get_or from k 0) b)
      word k m b = rw (graph_word after p x k m, graph_word work p x k m, ← at) (R.joined k (omega arith) b)

      held : (c : Claim) (t : Bool) → in_words c ≡ t → (in_words c && holds (graph_words after p x) c) ≡ ((in_words c && holds (graph_words work p x) c) || (in_words c && holds from c))
      held c true e = rw e (holds_joined (graph_words work p x) from (graph_words after p x) word c (words_in c e))
      held c false e = rw e refl

-- A word of an entry that is joined to another, or to itself, is still its own.
pub row_read : (work now : List ℕ) (p x q z first from i gained : ℕ) → x < 4 → z < 4 → first ≡ graph_place p x → from ≡ graph_place q z → i < 544
    → RowJoined work (graph_words work q z) first i now gained → get_or now (from + i) 0 ≡ get_or (graph_words work q z) i 0
row_read work now p x q z first from i gained l m at at' low R = R.rest (from + i) away ∙ ap (λ (k : ℕ). get_or work (k + i) 0) at' ∙ sym (graph_word work q z i low)
  where
    away : (from + i < first) ⊎ (first + i ≤ from + i)
    away = elim (side from first) [
      | inl a ↦ elim (graphs_apart p x q z l m (λ e. apart a e.0 e.1)) [ inl b ↦ inl (omega arith) | inr b ↦ absurd (omega arith) ]
      | inr (inl a) ↦ inr (omega arith)
      | inr (inr a) ↦ inr (omega arith)
    ]
      where
        apart : from < first → q ≡ p → z ≡ x → ⊥
        apart a e f = omega arith

-- An entry that lies within another is joined to it already.
pub entry_within : (work : List ℕ) (p x q z first from : ℕ) → HasPoint work p → x < 4 → first ≡ graph_place p x → from ≡ graph_place q z → LiesWithin work from first
    → GraphJoined work p x (graph_words work q z) work false
entry_within work p x q z first from has l at at' within = row_ends work p x has l (graph_words work q z) work first 0 at
    (row_holds work (graph_words work q z) first 544 λ k m. rw (graph_word work q z k m, ← at') (within k m))
