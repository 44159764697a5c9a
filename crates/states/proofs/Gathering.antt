-- What is found in words, gathered one word after another.
use Prim.Native.Nat.{ℕ, ◌+◌, ◌^◌, ◌<◌}
use mathlib.Core.Path.{◌≡◌, refl, sym, ◌∙◌}
use mathlib.Core.List.{List}
use mathlib.Core.Bool.{Bool, true, false, not, ◌&&◌, ◌||◌, false≢true}
use native.Mathlib.Omega.{arith}
use lib.ListN.{get_or, take, drop}
use lib.Seq.{get_or-take, get_or-drop}
use lib.Dec.{eqb}
use borrow.Author.Tests.{eqb-true, eqb-false}
use Rattle.sets.specs.Sets.{member}
use Rattle.sets.proofs.Laws.{member_zero}
use Rattle.sets.proofs.Members.{no_members}
use Rattle.sets.proofs.Booleans.{or_left, or_right, refuted, never_lacks}
use Rattle.states.specs.Inner.Promises.{LiesWithin}

module _ (found : ℕ → ℕ → Bool) where
  -- A set has what is found in the words before a place.
  abbrev pub Gathered : ℕ → ℕ → Type 0
  Gathered i all = (k : ℕ) → k < i → (b : ℕ) → found k b ≡ true → member all b ≡ true

  pub gathers : (i all one both : ℕ) → Gathered i all → ((b : ℕ) → member one b ≡ found i b) → ((b : ℕ) → member both b ≡ (member all b || member one b)) → Gathered (i + 1) both
  gathers i all one both G here is k l b m = go (eqb k i) refl
    where
      go : (t : Bool) → eqb k i ≡ t → member both b ≡ true
      go true q = let e : k ≡ i = eqb-true k i q in is b ∙ or_right (member all b) _ (here b ∙ rw e at m)
      go false q = let n = eqb-false k i q in is b ∙ or_left _ _ (G k (omega arith) b m)

  pub none_found : (i all : ℕ) → Gathered i all → all ≡ 0 → (k : ℕ) → k < i → (b : ℕ) → found k b ≡ false
  none_found i all G e k l b = refuted _ λ m. false≢true (sym (member_zero b) ∙ rw e at (G k l b m))

module _ (work : List ℕ) where
  -- A member of a word; one that another word lacks.
  abbrev pub held : ℕ → ℕ → ℕ → Bool
  held first k b = member (get_or work (first + k) 0) b

  abbrev pub lacks : ℕ → ℕ → ℕ → ℕ → Bool
  lacks from first k b = held from k b && not (held first k b)

  -- A word of a row that was lent.
  pub row_word : (first k : ℕ) → k < 544 → get_or (take 544 (drop first work)) k 0 ≡ get_or work (first + k) 0
  row_word first k l = get_or-take 544 (drop first work) k 0 l ∙ get_or-drop first work k 0

  pub words_zero : (first i all : ℕ) → ((k : ℕ) → get_or work k 0 < 2 ^ 64) → Gathered (held first) i all → all ≡ 0 → (k : ℕ) → k < i → get_or work (first + k) 0 ≡ 0
  words_zero first i all narrow G e k l = no_members _ (narrow (first + k)) λ b m. none_found (held first) i all G e k l b

  pub words_within : (from first all : ℕ) → Gathered (lacks from first) 544 all → all ≡ 0 → LiesWithin work from first
  words_within from first all G e k l b = never_lacks (held from k b) (held first k b) (none_found (lacks from first) 544 all G e k l b)
