-- The operations of a scheme as the code works them out.
use Rattle.std.specs.Prelude.{None}
use Prim.Native.Nat.{ℕ, ◌*◌, ◌%◌, ◌^◌, ◌<◌, ◌≤◌}
use mathlib.Core.Path.{◌≡◌, refl, sym, ap, subst, ◌∙◌}
use mathlib.Core.List.{List, [], ◌∷◌}
use mathlib.Core.Bool.{Bool, true, false, cond, ◌&&◌, ◌||◌, and-false, and_comm, or-false, or_comm, false≢true}
use native.Mathlib.Omega.{arith}
use lib.ListN.{length, get_or, get_or-eq_default}
use lib.Dec.{eqb, ltb, lit<}
use lib.Pow.{pow_mono, pow-lt, shl_exact}
use borrow.Author.Tests.{eq-eqb, ne_eqb, ltb-true, ltb-false}
use Rattle.sets.specs.Sets.{member}
use Rattle.sets.proofs.Laws.{member_zero, member_high, member_single}
use Rattle.vocabularies.specs.Vocabulary.{is_in}
use Rattle.vocabularies.specs.Facts.{Fact, carried, present, ordered, valued, same_fact}
use Rattle.judging.specs.Inner.Judgement.{precedes}
use Rattle.patterns.specs.Inner.Patterns.{breaks_value, flagged, pattern_of, flag_in, joined_flag, join}
use Rattle.patterns.specs.Inner.Morphisms as Morphisms
use Rattle.patterns.specs.Inner.Morphisms.{class_of}
use Rattle.patterns.proofs.Clauses.{numbered_below}
use Rattle.patterns.proofs.Bits.{pattern_of_nothing}
use Rattle.schemes.specs.declared.Scheme.{Scheme}
use Rattle.schemes.specs.declared.Scheme.TheVariants.{Root, Facts}
use Rattle.schemes.specs.declared.FactScheme.{FactScheme}
use Rattle.schemes.specs.Inner.Schemes.{place_of, content_of, pair_place, before_of, after_of, Lists, KeptPlaces, StandsForFacts, StandsFor, of_facts, of_root}
use Rattle.schemes.specs.Inner.Promises.{PatternOfOne, FirstAt, FirstPlace}
use Rattle.pattern_sets.specs.Inner.Images.{flag_at, joined_by, Apart}
use Rattle.sets.proofs.Booleans.{or_absent}
use Rattle.pattern_sets.proofs.Flags.{pattern_below, pattern_bit, pattern_high, pattern_same}
use Rattle.schemes.proofs.Numbers.{numbered_is}
use Rattle.schemes.proofs.FactPlaces.{flag_placed, fact_placed, place_le, place_at, same_place}

-- ---- the facts of a clause

module _ (fs : List Fact) (few : length fs ≤ 8) where
  -- No pattern has a flag at 8.
  pub nowhere : (x : ℕ) → x < 2 ^ length fs → member x 8 ≡ false
  nowhere x h = member_high (length fs) x 8 h few

  module _ (x y : ℕ) (p : x < 2 ^ length fs) (q : y < 2 ^ length fs) where
    alone : (f : Fact) → ((flag_in fs x f || flag_in fs y f) || (member x 8 && member y 8)) ≡ (flag_in fs x f || flag_in fs y f)
    alone f = or_absent (flag_in fs x f || flag_in fs y f) (ap (λ (b : Bool). b && member y 8) (nowhere x p))

    joined_by_lem : (f : Fact) → ((flag_in fs x f || flag_in fs y f) || (member x (before_of fs f) && member y (after_of fs f))) ≡ joined_flag fs x y f
    joined_by_lem (carried a) = alone (carried a)
    joined_by_lem (present c) = alone (present c)
    joined_by_lem (ordered c d) = rw (flag_placed fs (present d) x p, flag_placed fs (present c) y q)
    joined_by_lem (valued a m) = alone (valued a m)

    -- The flag of a fact at its place.
    pub joined_at : (f : Fact) (i : ℕ) → place_of f fs ≡ i
        → ((member x i || member y i) || (member x (before_of fs f) && member y (after_of fs f))) ≡ joined_flag fs x y f
    joined_at f i e =
        let left : flag_in fs x f ≡ member x i = flag_placed fs f x p ∙ ap (member x) e in
        let right : flag_in fs y f ≡ member y i = flag_placed fs f y q ∙ ap (member y) e in
        rw (← left, ← right) (joined_by_lem f)

pair_small : (in_first : Bool) (fs : List Fact) → length fs ≤ 8 → (f : Fact) → pair_place in_first fs f ≤ 8
pair_small in_first fs few (carried a) = omega arith
pair_small in_first fs few (present c) = omega arith
pair_small in_first fs few (ordered c d) = omega (arith, place_le fs (present (cond in_first d c)))
pair_small in_first fs few (valued a m) = omega arith

-- Past the facts stands what stands for a content.
pub pair_at : (in_first : Bool) (fs : List Fact) (places : List ℕ) → Lists (pair_place in_first fs) 8 places fs
    → (i : ℕ) → i < 8 → get_or places i 0 ≡ pair_place in_first fs (get_or fs i (present 0))
pair_at in_first fs places L i b = go (ltb i (length fs)) refl
  where
    go : (t : Bool) → ltb i (length fs) ≡ t → get_or places i 0 ≡ pair_place in_first fs (get_or fs i (present 0))
    go true e = L.stands i (ltb-true i (length fs) e)
    go false e =
        let l : length fs ≤ i = ltb-false i (length fs) e in
        L.past i l b ∙ sym (ap (pair_place in_first fs) (get_or-eq_default fs (present 0) l))

-- A scheme is one of the two.
root_in : Scheme → ℕ
root_in (Root e) = e
root_in (Facts p) = 0

the_root : {e root : ℕ} → Root root ≡ Root e → root ≡ e
unfolding root_in
the_root t = ap root_in t

places_in : FactScheme → Scheme → FactScheme
places_in p (Root e) = p
places_in p (Facts q) = q

the_places : {p q : FactScheme} → Facts p ≡ Facts q → p ≡ q
unfolding places_in
the_places {p} t = ap (places_in p) t

is_root : Scheme → Bool
is_root (Root e) = true
is_root (Facts p) = false

pub not_root : {p : FactScheme} {e : ℕ} → Facts p ≡ Root e → ⊥
unfolding is_root
not_root t = false≢true (ap is_root t)

pub not_facts : {e : ℕ} {fs : List Fact} → StandsForFacts (Root e) fs → ⊥
not_facts h = not_root (sym h.of_clause)

pub kept_in : {p : FactScheme} {fs : List Fact} → StandsForFacts (Facts p) fs → KeptPlaces p fs
kept_in {fs} h = subst (λ (q : FactScheme). KeptPlaces q fs) (sym (the_places h.of_clause)) h.kept

-- In a word of one content no pair is broken.
one_flag : (c : ℕ) (f : Fact) → flagged [] (c ∷ []) f ≡ same_fact f (present c)
unfolding is_in precedes breaks_value
one_flag c (carried a) = refl
one_flag c (present c') = or-false (eqb c' c)
one_flag c (ordered c' d') = rw (and-false (eqb c d'))
one_flag c (valued a m) = refl

-- What only pairs have is absent at a content's place.
content_alone : (fs : List Fact) (of : Fact → ℕ) → ((c : ℕ) → of (present c) ≡ 8) → (c : ℕ) → of (get_or fs (place_of (present c) fs) (present 0)) ≡ 8
content_alone fs of alone c = go (ltb (place_of (present c) fs) (length fs)) refl
  where
    go : (t : Bool) → ltb (place_of (present c) fs) (length fs) ≡ t → of (get_or fs (place_of (present c) fs) (present 0)) ≡ 8
    go true e = ap of (fact_placed fs (present c) (ltb-true (place_of (present c) fs) (length fs) e)) ∙ alone c
    go false e = ap of (get_or-eq_default fs (present 0) (ltb-false (place_of (present c) fs) (length fs) e)) ∙ alone 0

module _ (r : FactScheme) (fs : List Fact) (h : KeptPlaces r fs) where
  -- The pattern whose one flag is at a content's place.
  placed_one : (c p : ℕ) → p < 2 ^ 8 → ((i : ℕ) → member p i ≡ eqb i (place_of (present c) fs)) → place_of (present c) fs < length fs
      → p ≡ pattern_of fs [] (c ∷ [])
  unfolding pattern_of
  placed_one c p b at here = numbered_is fs (flagged [] (c ∷ [])) p h.few b
      (λ i l. at i ∙ sym (one_flag c (get_or fs i (present 0)) ∙ same_place fs h.distinct (present c) i l))
      (λ i l. at i ∙ ne_eqb i (place_of (present c) fs) (λ e. omega arith))

  -- A content stands at its fact's place.
  content_found : (c place : ℕ) → c < 64 → FirstAt r.contents c place → (place < length fs) × (place ≡ place_of (present c) fs)
  content_found c place small p = go (ltb place (length fs)) refl
    where
      is_content : (f : Fact) → c ≡ content_of f → f ≡ present c
      is_content (carried a) e = absurd (omega arith)
      is_content (present d) e = ap present (sym e)
      is_content (ordered d d') e = absurd (omega arith)
      is_content (valued a m) e = absurd (omega arith)

      go : (t : Bool) → ltb place (length fs) ≡ t → (place < length fs) × (place ≡ place_of (present c) fs)
      go true e =
          let l : place < length fs = ltb-true place (length fs) e in
          let is : get_or fs place (present 0) ≡ present c = is_content (get_or fs place (present 0)) (sym p.found ∙ h.contents.stands place l) in
          (l, sym (place_at fs h.distinct place l) ∙ ap (λ (f : Fact). place_of f fs) is)
      go false e =
          let n : get_or r.contents place 0 ≡ 64 = h.contents.past place (ltb-false place (length fs) e) p.within in
          let q : get_or r.contents place 0 ≡ c = p.found in
          absurd (omega arith)

  pub single_flag : (c place : ℕ) → c < 64 → FirstAt r.contents c place → (1 * 2 ^ place) % 2 ^ 8 ≡ pattern_of fs [] (c ∷ [])
  single_flag c place small p =
      let b : place < 8 = p.within in
      let (l, e) = content_found c place small p in
      let s : (1 * 2 ^ place) % 2 ^ 8 ≡ 1 * 2 ^ place = shl_exact {a = 1} 1 place 8 (lit< tt) (omega arith) in
      let m : 2 ^ place < 2 ^ 8 = pow-lt b in
      placed_one c ((1 * 2 ^ place) % 2 ^ 8) (omega arith)
      (λ i. ap (λ (n : ℕ). member n i) s ∙ member_single place i ∙ ap (eqb i) e)
      (omega arith)

  -- A content that is no fact.
  pub absent_none : (c : ℕ) → length fs ≤ place_of (present c) fs → 0 ≡ pattern_of fs [] (c ∷ [])
  unfolding pattern_of
  absent_none c l = numbered_is fs (flagged [] (c ∷ [])) 0 h.few (omega arith)
      (λ i b. member_zero i ∙ sym (one_flag c (get_or fs i (present 0)) ∙ same_place fs h.distinct (present c) i b ∙ ne_eqb i (place_of (present c) fs) (λ q. omega arith)))
      (λ i b. member_zero i)

  pub single_none : (c : ℕ) → FirstPlace r.contents c None → 0 ≡ pattern_of fs [] (c ∷ [])
  single_none c p = absent_none c (go (ltb (place_of (present c) fs) (length fs)) refl)
    where
      go : (t : Bool) → ltb (place_of (present c) fs) (length fs) ≡ t → length fs ≤ place_of (present c) fs
      go true e =
          let l : place_of (present c) fs < length fs = ltb-true (place_of (present c) fs) (length fs) e in
          absurd (p (place_of (present c) fs) (omega (arith, h.few)) (h.contents.stands (place_of (present c) fs) l ∙ ap content_of (fact_placed fs (present c) l)))
      go false e = ltb-false (place_of (present c) fs) (length fs) e

  before_at : (i : ℕ) → i < 8 → get_or r.befores i 0 ≡ before_of fs (get_or fs i (present 0))
  before_at = pair_at true fs r.befores h.befores

  after_at : (i : ℕ) → i < 8 → get_or r.afters i 0 ≡ after_of fs (get_or fs i (present 0))
  after_at = pair_at false fs r.afters h.afters

  module _ (x y : ℕ) (p : x < 2 ^ length fs) (q : y < 2 ^ length fs) where
    -- A flag of the patterns joined by the places that are kept.
    joined_flag_lem : (i : ℕ) → i < 8 → ((member x i || member y i) || (flag_at x r.befores i && flag_at y r.afters i))
        ≡ ((member x i || member y i) || (member x (before_of fs (get_or fs i (present 0))) && member y (after_of fs (get_or fs i (present 0)))))
    joined_flag_lem i b =
        let f = get_or fs i (present 0) in
        let left : get_or r.befores i 0 % 64 ≡ before_of fs f = (let e = before_at i b in let l = pair_small true fs h.few f in omega arith) in
        let right : get_or r.afters i 0 % 64 ≡ after_of fs f = (let e = after_at i b in let l = pair_small false fs h.few f in omega arith) in
        rw (left, right)

    pub joined_op : joined_by r.befores r.afters x y ≡ join fs x y
    unfolding join
    joined_op = numbered_is fs (joined_flag fs x y) (joined_by r.befores r.afters x y) h.few (pattern_below flags)
        (λ i l. let b : i < 8 = omega (arith, h.few) in
        pattern_bit flags i b ∙ joined_flag_lem i b ∙ joined_at fs h.few x y p q (get_or fs i (present 0)) i (place_at fs h.distinct i l))
        (λ i l. rest i l (ltb i 8) refl)
      where
        flags : ℕ → Bool
        flags j = (member x j || member y j) || (flag_at x r.befores j && flag_at y r.afters j)

        rest : (i : ℕ) → length fs ≤ i → (t : Bool) → ltb i 8 ≡ t → member (joined_by r.befores r.afters x y) i ≡ false
        rest i l true e =
            let g : get_or fs i (present 0) ≡ present 0 = get_or-eq_default fs (present 0) l in
            let b : i < 8 = ltb-true i 8 e in
            pattern_bit flags i b ∙ joined_flag_lem i b
            ∙ rw (g, member_high (length fs) x i p l, member_high (length fs) y i q l, nowhere fs h.few x p)
        rest i l false e = pattern_high flags i (ltb-false i 8 e)

    -- The places may change sides with the words.
    pub joined_turned : joined_by r.afters r.befores y x ≡ joined_by r.befores r.afters x y
    joined_turned = pattern_same
        (λ j. (member y j || member x j) || (flag_at y r.afters j && flag_at x r.befores j))
        (λ j. (member x j || member y j) || (flag_at x r.befores j && flag_at y r.afters j))
        (λ j l. rw (or_comm (member y j) (member x j), and_comm (flag_at y r.afters j) (flag_at x r.befores j)))

  -- The contents of a pair are no pairs themselves.
  before_content : (f : Fact) (p : ℕ) → p ≡ after_of fs f → p < 8 → get_or r.befores p 0 ≡ 8
  before_content (carried a) p e l = absurd (omega arith)
  before_content (present c) p e l = absurd (omega arith)
  before_content (ordered c d) p e l = before_at p l ∙ ap (λ (k : ℕ). before_of fs (get_or fs k (present 0))) e ∙ content_alone fs (before_of fs) (λ c. refl) c
  before_content (valued a m) p e l = absurd (omega arith)

  after_content : (f : Fact) (p : ℕ) → p ≡ before_of fs f → p < 8 → get_or r.afters p 0 ≡ 8
  after_content (carried a) p e l = absurd (omega arith)
  after_content (present c) p e l = absurd (omega arith)
  after_content (ordered c d) p e l = after_at p l ∙ ap (λ (k : ℕ). after_of fs (get_or fs k (present 0))) e ∙ content_alone fs (after_of fs) (λ c. refl) d
  after_content (valued a m) p e l = absurd (omega arith)

  pub apart_left : (x : ℕ) → x < 2 ^ length fs → Apart x r.befores r.afters
  apart_left x b j l k =
      let f = get_or fs j (present 0) in
      let e : get_or r.afters j 0 % 64 ≡ after_of fs f = (let q = after_at j l in let s = pair_small false fs h.few f in omega arith) in
      rw (before_content f (get_or r.afters j 0 % 64) e k) (nowhere fs h.few x b)

  pub apart_right : (y : ℕ) → y < 2 ^ length fs → Apart y r.afters r.befores
  apart_right y b j l k =
      let f = get_or fs j (present 0) in
      let e : get_or r.befores j 0 % 64 ≡ before_of fs f = (let q = before_at j l in let s = pair_small true fs h.few f in omega arith) in
      rw (after_content f (get_or r.befores j 0 % 64) e k) (nowhere fs h.few y b)

-- ---- whether a word is the root alone

module _ (root : ℕ) where
  pub single_alone : (c : ℕ) → root ≡ c → PatternOfOne (Root root) c 1
  unfolding class_of
  single_alone c q R (of_facts h) = absurd (not_facts h)
  single_alone c q R (of_root {root = e} t) =
      sym (ap (λ (b : Bool). cond b 1 2) (eq-eqb c e (sym (sym (the_root t) ∙ q))))

  pub single_other : (c : ℕ) → (root ≡ c → ⊥) → PatternOfOne (Root root) c 2
  unfolding class_of
  single_other c n R (of_facts h) = absurd (not_facts h)
  single_other c n R (of_root {root = e} t) =
      sym (ap (λ (b : Bool). cond b 1 2) (ne_eqb c e (λ q. n (the_root t ∙ sym q))))

-- ---- any of the two

module _ (p : FactScheme) where
  pub single_found : (c place : ℕ) → c < 64 → FirstAt p.contents c place → PatternOfOne (Facts p) c ((1 * 2 ^ place) % 2 ^ 8)
  single_found c place small at R (of_facts {fs} h) = single_flag p fs (kept_in h) c place small at
  single_found c place small at R (of_root e) = absurd (not_root e)

  pub single_nowhere : (c : ℕ) → FirstPlace p.contents c None → PatternOfOne (Facts p) c 0
  single_nowhere c at R (of_facts {fs} h) = single_none p fs (kept_in h) c at
  single_nowhere c at R (of_root e) = absurd (not_root e)

-- What a morphism has that is read.
module _ {r : Scheme} where
  pub size_most : {R : Morphisms.Morphism} → StandsFor r R → R.size ≤ 256
  size_most (of_facts {fs} h) = pow_mono h.kept.few
  size_most (of_root e) = omega arith

  pub joined_below : {R : Morphisms.Morphism} → StandsFor r R → (x y : ℕ) → x < R.size → y < R.size → R.op x y < R.size
  unfolding join
  joined_below (of_facts {fs} h) x y p q = numbered_below fs (joined_flag fs x y)
  joined_below (of_root e) x y p q = go (eqb x 0) (eqb y 0)
    where
      go : (a b : Bool) → cond a y (cond b x 2) < 3
      go true b = q
      go false true = p
      go false false = omega arith

  -- The word of no contents has the pattern 0.
  pub empty_pattern : {R : Morphisms.Morphism} → StandsFor r R → R.of [] ≡ 0
  unfolding class_of
  empty_pattern (of_facts {fs} h) = pattern_of_nothing fs
  empty_pattern (of_root e) = refl
