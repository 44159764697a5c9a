-- The entries that a work area keeps: by the words of each variable; nothing in zeros.
use Prim.Native.Nat.{ℕ, ◌+◌, ◌*◌, ◌^◌, ◌≤◌, ◌<◌}
use mathlib.Core.Path.{◌≡◌, refl, sym, ap, ◌∙◌}
use mathlib.Core.List.{List}
use mathlib.Core.Bool.{Bool, true, false, ◌&&◌, false≢true}
use native.Mathlib.Omega.{arith}
use lib.ListN.{length, get_or, drop, length-take, length-drop, get_or-eq_default}
use lib.Seq.{get_or-take, get_or-drop, length-take-le}
use lib.Dec.{ltb}
use borrow.Author.Tests.{lt-ltb, ltb-true, ltb-false}
use Rattle.sets.proofs.Laws.{member_zero}
use Rattle.summaries.specs.Proposal.{Claim, root, edge, string, gap_from, attribute_gap_from}
use Rattle.graphs.specs.Inner.Graphs.{holds, InWords}
use Rattle.graphs.proofs.Slots.{holds_none}
use Rattle.sets.proofs.Booleans.{and_both, and_left, and_right, refuted}
use Rattle.states.specs.Inner.States.{point_words, graph_place, strings_place, graph_words, in_words, string_in, entries_in}
use Rattle.states.specs.Inner.Promises.{HasPoint, string_words}

-- A place that a program has, as a test.
both_below : (points p x : ℕ) → p < points → x < 4 → (ltb p points && ltb x 4) ≡ true
both_below points p x l m = and_both (ltb p points) (ltb x 4) (lt-ltb p points l) (lt-ltb x 4 m)

guarded : (t a : Bool) → t ≡ true → (t && a) ≡ a
guarded true a e = refl
guarded false a e = absurd (false≢true e)

guard_same : (t a b : Bool) → (t ≡ true → a ≡ b) → (t && a) ≡ (t && b)
guard_same true a b f = f refl
guard_same false a b f = refl

-- ---- by the words of each variable

pub template_entry : (points : ℕ) (work : List ℕ) (p x : ℕ) → p < points → x < 4 → (c : Claim) → (entries_in points work p).template x c ≡ (in_words c && holds (graph_words work p x) c)
unfolding entries_in
template_entry points work p x l m c = guarded _ _ (both_below points p x l m)

pub string_entry : (points : ℕ) (work : List ℕ) (p y : ℕ) → p < points → y < 4 → (s : ℕ) → (entries_in points work p).string y s ≡ string_in work p y s
unfolding entries_in
string_entry points work p y l m s = guarded _ _ (both_below points p y l m)

-- The two words of a string variable, as a list.
pub word_first : (work : List ℕ) (p y : ℕ) → get_or work (strings_place p y) 0 ≡ get_or (string_words work p y) 0 0
word_first work p y =
    let at : strings_place p y ≡ strings_place p y + 0 = omega arith in
    ap (λ (i : ℕ). get_or work i 0) at ∙ sym (get_or-take 2 (drop (strings_place p y) work) 0 0 (omega arith) ∙ get_or-drop (strings_place p y) work 0 0)

pub word_second : (work : List ℕ) (p y : ℕ) → get_or work (strings_place p y + 1) 0 ≡ get_or (string_words work p y) 1 0
word_second work p y = sym (get_or-take 2 (drop (strings_place p y) work) 1 0 (omega arith) ∙ get_or-drop (strings_place p y) work 1 0)

module _ (points : ℕ) (work after : List ℕ) (p x : ℕ) where
  pub template_same : (p < points → x < 4 → graph_words after p x ≡ graph_words work p x) → (c : Claim) → (entries_in points after p).template x c ≡ (entries_in points work p).template x c
  unfolding entries_in
  template_same h c = guard_same (ltb p points && ltb x 4) _ _ λ e.
      ap (λ (g : List ℕ). in_words c && holds g c) (h (ltb-true p points (and_left _ _ e)) (ltb-true x 4 (and_right (ltb p points) _ e)))

  pub string_same : (p < points → x < 4 → string_words after p x ≡ string_words work p x) → (s : ℕ) → (entries_in points after p).string x s ≡ (entries_in points work p).string x s
  unfolding entries_in
  string_same h s = guard_same (ltb p points && ltb x 4) _ _ λ e.
      let same = h (ltb-true p points (and_left _ _ e)) (ltb-true x 4 (and_right (ltb p points) _ e)) in
      rw (word_first after p x, word_second after p x, word_first work p x, word_second work p x, same)

pub in_words_lem : (c : Claim) → InWords c → in_words c ≡ true
in_words_lem (root n) f = refl
in_words_lem (edge n g m) f = and_both _ _ (lt-ltb n 32 f.0) (lt-ltb g 8 f.1)
in_words_lem (string n h s) f = and_both _ _ (lt-ltb n 32 f.0) (lt-ltb h 8 f.1)
in_words_lem (gap_from g n) f = lt-ltb g 8 f
in_words_lem (attribute_gap_from h n) f = lt-ltb h 8 f

-- ---- the words of a graph

pub words_in : (c : Claim) → in_words c ≡ true → InWords c
words_in (root n) e = tt
words_in (edge n g m) e = (ltb-true n 32 (and_left _ _ e), ltb-true g 8 (and_right (ltb n 32) _ e))
words_in (string n h s) e = (ltb-true n 32 (and_left _ _ e), ltb-true h 8 (and_right (ltb n 32) _ e))
words_in (gap_from g n) e = ltb-true g 8 e
words_in (attribute_gap_from h n) e = ltb-true h 8 e

pub graph_room : (work : List ℕ) (p x : ℕ) → HasPoint work p → x < 4 → length (graph_words work p x) ≡ 544
graph_room work p x h l = length-take-le 544 (drop (graph_place p x) work) (omega (arith, length-drop (graph_place p x) work))

pub graph_word : (work : List ℕ) (p x i : ℕ) → i < 544 → get_or (graph_words work p x) i 0 ≡ get_or work (graph_place p x + i) 0
graph_word work p x i l = get_or-take 544 (drop (graph_place p x) work) i 0 l ∙ get_or-drop (graph_place p x) work i 0

pub no_graph_word : (work : List ℕ) (p x i : ℕ) → 544 ≤ i → get_or (graph_words work p x) i 0 ≡ 0
no_graph_word work p x i l = get_or-eq_default (graph_words work p x) 0 (omega (arith, length-take 544 (drop (graph_place p x) work)))

pub graph_narrow : (work : List ℕ) (p x : ℕ) → ((i : ℕ) → get_or work i 0 < 2 ^ 64) → (i : ℕ) → get_or (graph_words work p x) i 0 < 2 ^ 64
graph_narrow work p x narrow i = go (ltb i 544) refl
  where
    go : (t : Bool) → ltb i 544 ≡ t → get_or (graph_words work p x) i 0 < 2 ^ 64
    go true e = rw (graph_word work p x i (ltb-true i 544 e)) (narrow (graph_place p x + i))
    go false e = rw (no_graph_word work p x i (ltb-false i 544 e)) (omega arith)

-- ---- nothing in zeros

module _ (points : ℕ) (work : List ℕ) (zero_at : (i : ℕ) → i < points * point_words → get_or work i 0 ≡ 0) where
  graph_zero : (p x : ℕ) → p < points → x < 4 → (i : ℕ) → get_or (graph_words work p x) i 0 ≡ 0
  graph_zero p x l m i = go (ltb i 544) refl
    where
      go : (t : Bool) → ltb i 544 ≡ t → get_or (graph_words work p x) i 0 ≡ 0
      go true e = let k : i < 544 = ltb-true i 544 e in graph_word work p x i k ∙ zero_at (graph_place p x + i) (omega arith)
      go false e = no_graph_word work p x i (ltb-false i 544 e)

  no_string : (p y : ℕ) → p < points → y < 4 → (s : ℕ) → string_in work p y s ≡ false
  no_string p y l m s = rw (zero_at (strings_place p y + 1) (omega arith), zero_at (strings_place p y) (omega arith), member_zero 0) (member_zero s)

  pub nothing_held : (p x : ℕ) (c : Claim) → (entries_in points work p).template x c ≡ false
  unfolding entries_in
  nothing_held p x c = refuted _ λ e.
      let l : p < points = ltb-true p points (and_left _ _ (and_left _ _ e)) in
      let m : x < 4 = ltb-true x 4 (and_right (ltb p points) _ (and_left _ _ e)) in
      false≢true (sym (holds_none (graph_words work p x) (graph_zero p x l m) c) ∙ and_right (in_words c) _ (and_right (ltb p points && ltb x 4) _ e))

  pub no_string_held : (p y s : ℕ) → (entries_in points work p).string y s ≡ false
  unfolding entries_in
  no_string_held p y s = refuted _ λ e.
      let l : p < points = ltb-true p points (and_left _ _ (and_left _ _ e)) in
      let m : y < 4 = ltb-true y 4 (and_right (ltb p points) _ (and_left _ _ e)) in
      false≢true (sym (no_string p y l m s) ∙ and_right (ltb p points && ltb y 4) _ e)
