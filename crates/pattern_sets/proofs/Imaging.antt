-- Images: the pieces of which the joining of sets is made.
use Prim.Native.Nat.{ℕ, ◌+◌, ◌-◌, ◌%◌, ◌^◌, ◌≤◌, ◌<◌}
use mathlib.Core.Path.{◌≡◌, refl, sym, ap, ap₂, subst, ◌∙◌}
use mathlib.Core.List.{List}
use mathlib.Core.Bool.{Bool, true, false, not, ◌&&◌, ◌||◌, or-false, or-true, and-false, and-true, or_comm}
use mathlib.Core.Logic.{⊎_elim}
use native.Mathlib.Omega.{arith}
use lib.ListN.{length, get_or}
use lib.Dec.{eqb, ltb}
use borrow.Author.Tests.{eq-eqb, eqb-true, eqb-false, lt-ltb, le-ltb, ltb-true, ltb-false, not-true}
use Rattle.sets.specs.Sets.{member}
use Rattle.sets.proofs.Laws.{member_high, member_zero}
use Rattle.pattern_sets.specs.Inner.PatternSets.{holds}
use Rattle.pattern_sets.specs.Inner.Images.{raised_at, crossed_at, flag_at, raised_by, crossed_by, joined_by, AllFlagged, Shifted, Image, Apart}
use Rattle.sets.proofs.Booleans.{or_left, or_right, or_cases, and_both, and_left, and_right}
use Rattle.pattern_sets.proofs.Laws.{held_small}
use Rattle.pattern_sets.proofs.Flags.{pattern_bit, pattern_high, pattern_is, pattern_same, member_large, added, added_below, lacks, raised_same, raised_more}

-- ---- images in general

pub image_same : {f g : ℕ → ℕ} {a r : List ℕ} → ((y : ℕ) → holds a y ≡ true → f y ≡ g y) → Image f a r → Image g a r
image_same {f} {g} {a} {r} e i = record {
  complete = λ y h. subst (λ (z : ℕ). holds r z ≡ true) (e y h) (i.complete y h);
  sound = λ z h. let (y, p, q) = i.sound z h in (y, p, sym (e y p) ∙ q);
}

pub image_then : {f g : ℕ → ℕ} {a b c : List ℕ} → Image f a b → Image g b c → Image (λ y. g (f y)) a c
image_then {f} {g} i j = record {
  complete = λ y h. j.complete (f y) (i.complete y h);
  sound = λ z h.
      let (v, p, q) = j.sound z h in
      let (y, s, t) = i.sound v p in
      (y, s, ap g t ∙ q);
}

pub image_itself : {f : ℕ → ℕ} {a : List ℕ} → ((y : ℕ) → holds a y ≡ true → f y ≡ y) → Image f a a
image_itself {f} {a} e = image_same {f = λ y. y} (λ y h. sym (e y h)) (record { complete = λ y h. h; sound = λ z h. (z, h, refl) })

-- ---- one flag more

module _ (i : ℕ) (l : i < 8) (set m moved u r : List ℕ) (ls : length set ≡ 4) (lr : length r ≡ 4) (em : AllFlagged i m)
    (es : Shifted set i moved) (eu : (y : ℕ) → holds u y ≡ (holds set y || holds moved y)) (er : (y : ℕ) → holds r y ≡ (holds m y && holds u y)) where
  at : (z : ℕ) → z < 256 → member z i ≡ true → holds r z ≡ (holds set z || holds set (z - 2 ^ i))
  at z b h = er z ∙ ap₂ ◌&&◌ (em z b ∙ h) (eu z ∙ ap (λ (t : Bool). holds set z || t) (es z b h))

  raise_complete : (y : ℕ) → holds set y ≡ true → holds r (raised_at i y) ≡ true
  raise_complete y h = go (member y i) refl
    where
      b : y < 256
      b = held_small set ls y h

      go : (t : Bool) → member y i ≡ t → holds r (raised_at i y) ≡ true
      go true e =
          subst (λ (z : ℕ). holds r z ≡ true) (sym (raised_same i y b e))
          (at y b e ∙ or_left (holds set y) (holds set (y - 2 ^ i)) h)
      go false e =
          let z : ℕ = y + 2 ^ i in
          let back : y + 2 ^ i - 2 ^ i ≡ y = omega arith in
          let has : member (y + 2 ^ i) i ≡ true = added y i e i ∙ ap (λ (t : Bool). t || member y i) (eq-eqb i i refl) in
          subst (λ (z : ℕ). holds r z ≡ true) (sym (raised_more i y l b e))
          (at (y + 2 ^ i) (added_below y i e l b) has
          ∙ or_right (holds set (y + 2 ^ i)) (holds set (y + 2 ^ i - 2 ^ i)) (ap (holds set) back ∙ h))

  raise_sound : (z : ℕ) → holds r z ≡ true → (y : ℕ) × (holds set y ≡ true) × (raised_at i y ≡ z)
  raise_sound z h = ⊎_elim
      (λ (q : holds set z ≡ true). (z, q, raised_same i z b has))
      (λ (q : holds set (z - 2 ^ i) ≡ true). (
        z - 2 ^ i,
        q,
        raised_more i (z - 2 ^ i) l (let small : z < 256 = b in omega arith) (lacks z i has) ∙ (let large = member_large z i has in omega arith),
      ))
      (or_cases (holds set z) (holds set (z - 2 ^ i)) (sym (at z b has) ∙ h))
    where
      b : z < 256
      b = held_small r lr z h

      has : member z i ≡ true
      has = sym (em z b) ∙ and_left (holds m z) (holds u z) (sym (er z) ∙ h)

  pub raise_image : Image (raised_at i) set r
  raise_image = record { complete = raise_complete; sound = raise_sound }

-- ---- one flag more if another is there

cross_there : (c i y : ℕ) → member y c ≡ true → crossed_at c i y ≡ raised_at i y
cross_there c i y h = pattern_same (λ j. member y j || (eqb j i && member y c)) (λ j. eqb j i || member y j)
    (λ j l. rw (h, and-true (eqb j i)) (or_comm (member y j) (eqb j i)))

cross_absent : (c i y : ℕ) → y < 256 → member y c ≡ false → crossed_at c i y ≡ y
cross_absent c i y b h = pattern_is (λ j. member y j || (eqb j i && member y c)) y b
    (λ j l. sym (rw (h, and-false (eqb j i)) (or-false (member y j))))

module _ (c i : ℕ) (set m rest part up r : List ℕ) (ls : length set ≡ 4) (em : AllFlagged c m)
    (et : (y : ℕ) → holds rest y ≡ (holds set y && not (holds m y))) (ep : (y : ℕ) → holds part y ≡ (holds set y && holds m y))
    (eu : Image (raised_at i) part up) (er : (y : ℕ) → holds r y ≡ (holds rest y || holds up y)) where
  cross_complete : (y : ℕ) → holds set y ≡ true → holds r (crossed_at c i y) ≡ true
  cross_complete y h = go (member y c) refl
    where
      b : y < 256
      b = held_small set ls y h

      go : (t : Bool) → member y c ≡ t → holds r (crossed_at c i y) ≡ true
      go true e =
          subst (λ (z : ℕ). holds r z ≡ true) (sym (cross_there c i y e))
          (er (raised_at i y) ∙ or_right (holds rest (raised_at i y)) (holds up (raised_at i y)) (eu.complete y (ep y ∙ and_both _ _ h (em y b ∙ e))))
      go false e =
          subst (λ (z : ℕ). holds r z ≡ true) (sym (cross_absent c i y b e))
          (er y ∙ or_left (holds rest y) (holds up y) (et y ∙ and_both _ _ h (ap not (em y b ∙ e))))

  cross_sound : (z : ℕ) → holds r z ≡ true → (y : ℕ) × (holds set y ≡ true) × (crossed_at c i y ≡ z)
  cross_sound z h = ⊎_elim
      (λ (q : holds rest z ≡ true).
      let both = sym (et z) ∙ q in
      let there = and_left (holds set z) (not (holds m z)) both in
      let b = held_small set ls z there in
      (z, there, cross_absent c i z b (sym (em z b) ∙ not-true (holds m z) (and_right (holds set z) (not (holds m z)) both))))
      (λ (q : holds up z ≡ true).
      let (y, p, e) = eu.sound z q in
      let both = sym (ep y) ∙ p in
      let there = and_left (holds set y) (holds m y) both in
      (y, there, cross_there c i y (sym (em y (held_small set ls y there)) ∙ and_right (holds set y) (holds m y) both) ∙ e))
      (or_cases (holds rest z) (holds up z) (sym (er z) ∙ h))

  pub cross_image : Image (crossed_at c i) set r
  cross_image = record { complete = cross_complete; sound = cross_sound }

-- ---- many flags

ltb_next : (j i : ℕ) → ltb j (i + 1) ≡ (eqb j i || ltb j i)
ltb_next j i = go (eqb j i) refl (ltb j i) refl
  where
    go : (t : Bool) → eqb j i ≡ t → (u : Bool) → ltb j i ≡ u → ltb j (i + 1) ≡ (t || u)
    go true e u f = lt-ltb j (i + 1) (let q : j ≡ i = eqb-true j i e in omega arith)
    go false e true f = lt-ltb j (i + 1) (let q : j < i = ltb-true j i f in omega arith)
    go false e false f = le-ltb j (i + 1) (let n : j ≡ i → ⊥ = eqb-false j i e in let q : i ≤ j = ltb-false j i f in omega arith)

module _ (x : ℕ) where
  pub raised_none : (y : ℕ) → y < 256 → raised_by 0 x y ≡ y
  raised_none y b = pattern_is (λ j. member y j || (ltb j 0 && member x j)) y b
      (λ j l. sym (rw (le-ltb j 0 (omega arith)) (or-false (member y j))))

  pub raised_there : (i y : ℕ) → member x i ≡ true → raised_at i (raised_by i x y) ≡ raised_by (i + 1) x y
  raised_there i y h = pattern_same (λ j. eqb j i || member (raised_by i x y) j) (λ j. member y j || (ltb j (i + 1) && member x j))
      (λ j l. rw (pattern_bit (λ j. member y j || (ltb j i && member x j)) j l, ltb_next j i) (go j (eqb j i) refl))
    where
      go : (j : ℕ) (t : Bool) → eqb j i ≡ t → (t || (member y j || (ltb j i && member x j))) ≡ (member y j || ((t || ltb j i) && member x j))
      go j true e = sym (ap (λ (b : Bool). member y j || b) (ap (member x) (eqb-true j i e) ∙ h) ∙ or-true (member y j))
      go j false e = refl

  pub raised_absent : (i y : ℕ) → member x i ≡ false → raised_by i x y ≡ raised_by (i + 1) x y
  raised_absent i y h = pattern_same (λ j. member y j || (ltb j i && member x j)) (λ j. member y j || (ltb j (i + 1) && member x j))
      (λ j l. rw (ltb_next j i) (go j (eqb j i) refl))
    where
      go : (j : ℕ) (t : Bool) → eqb j i ≡ t → (member y j || (ltb j i && member x j)) ≡ (member y j || ((t || ltb j i) && member x j))
      go j true e =
          let none : member x j ≡ false = ap (member x) (eqb-true j i e) ∙ h in
          rw (none, and-false (ltb j i))
      go j false e = refl

module _ (x : ℕ) (firsts seconds : List ℕ) where
  pub crossed_none : (y : ℕ) → y < 256 → crossed_by 0 x firsts seconds y ≡ y
  crossed_none y b = pattern_is (λ j. member y j || (ltb j 0 && (flag_at x firsts j && flag_at y seconds j))) y b
      (λ j l. sym (rw (le-ltb j 0 (omega arith)) (or-false (member y j))))

  module _ (i y : ℕ) where
    -- The flag at the second place is not touched before.
    unmoved : Apart x firsts seconds → i < 8 → y < 256 → member (crossed_by i x firsts seconds y) (get_or seconds i 0 % 64) ≡ flag_at y seconds i
    unmoved apart l b = go (ltb (get_or seconds i 0 % 64) 8) refl
      where
        go : (t : Bool) → ltb (get_or seconds i 0 % 64) 8 ≡ t → member (crossed_by i x firsts seconds y) (get_or seconds i 0 % 64) ≡ flag_at y seconds i
        go true e =
            let k : get_or seconds i 0 % 64 < 8 = ltb-true (get_or seconds i 0 % 64) 8 e in
            pattern_bit (λ j. member y j || (ltb j i && (flag_at x firsts j && flag_at y seconds j))) (get_or seconds i 0 % 64) k
            ∙ rw (apart i l k, and-false (ltb (get_or seconds i 0 % 64) i)) (or-false (flag_at y seconds i))
        go false e =
            let k : 8 ≤ get_or seconds i 0 % 64 = ltb-false (get_or seconds i 0 % 64) 8 e in
            pattern_high (λ j. member y j || (ltb j i && (flag_at x firsts j && flag_at y seconds j))) (get_or seconds i 0 % 64) k
            ∙ sym (member_high 8 y (get_or seconds i 0 % 64) b k)

    pub crossed_there : Apart x firsts seconds → i < 8 → y < 256 → flag_at x firsts i ≡ true
        → crossed_at (get_or seconds i 0 % 64) i (crossed_by i x firsts seconds y) ≡ crossed_by (i + 1) x firsts seconds y
    crossed_there apart l b h = pattern_same
        (λ j. member (crossed_by i x firsts seconds y) j || (eqb j i && member (crossed_by i x firsts seconds y) (get_or seconds i 0 % 64)))
        (λ j. member y j || (ltb j (i + 1) && (flag_at x firsts j && flag_at y seconds j)))
        (λ j k. rw (pattern_bit (λ j. member y j || (ltb j i && (flag_at x firsts j && flag_at y seconds j))) j k, unmoved apart l b, ltb_next j i) (go j (eqb j i) refl))
      where
        go : (j : ℕ) (t : Bool) → eqb j i ≡ t
            → (member y j || (ltb j i && (flag_at x firsts j && flag_at y seconds j)) || (t && flag_at y seconds i))
            ≡ (member y j || ((t || ltb j i) && (flag_at x firsts j && flag_at y seconds j)))
        go j true e =
            let q : j ≡ i = eqb-true j i e in
            let none : ltb j i ≡ false = le-ltb j i (omega arith) in
            rw (none, q, h, or-false (member y i))
        go j false e = or-false (member y j || (ltb j i && (flag_at x firsts j && flag_at y seconds j)))

    pub crossed_absent : flag_at x firsts i ≡ false → crossed_by i x firsts seconds y ≡ crossed_by (i + 1) x firsts seconds y
    crossed_absent h = pattern_same (λ j. member y j || (ltb j i && (flag_at x firsts j && flag_at y seconds j)))
        (λ j. member y j || (ltb j (i + 1) && (flag_at x firsts j && flag_at y seconds j)))
        (λ j l. rw (ltb_next j i) (go j (eqb j i) refl))
      where
        go : (j : ℕ) (t : Bool) → eqb j i ≡ t → (member y j || (ltb j i && (flag_at x firsts j && flag_at y seconds j)))
            ≡ (member y j || ((t || ltb j i) && (flag_at x firsts j && flag_at y seconds j)))
        go j true e =
            let none : flag_at x firsts j ≡ false = ap (flag_at x firsts) (eqb-true j i e) ∙ h in
            rw (none, and-false (ltb j i))
        go j false e = refl

  -- ---- a pattern joined

  pub joined_zero : (y : ℕ) → y < 256 → x ≡ 0 → joined_by firsts seconds x y ≡ y
  joined_zero y b e = pattern_is (λ j. (member x j || member y j) || (flag_at x firsts j && flag_at y seconds j)) y b
      (λ j l. sym (rw (e, member_zero j, member_zero (get_or firsts j 0 % 64)) (or-false (member y j))))

  pub joined_both : (y : ℕ) → raised_by 8 x (crossed_by 8 x firsts seconds y) ≡ joined_by firsts seconds x y
  joined_both y = pattern_same (λ j. member (crossed_by 8 x firsts seconds y) j || (ltb j 8 && member x j))
      (λ j. (member x j || member y j) || (flag_at x firsts j && flag_at y seconds j))
      (λ j l. rw (pattern_bit (λ j. member y j || (ltb j 8 && (flag_at x firsts j && flag_at y seconds j))) j l, lt-ltb j 8 l)
      (regroup (member y j) (flag_at x firsts j && flag_at y seconds j) (member x j)))
    where
      regroup : (a b c : Bool) → (a || b || c) ≡ (c || a || b)
      regroup true b true = refl
      regroup true b false = refl
      regroup false true true = refl
      regroup false true false = refl
      regroup false false true = refl
      regroup false false false = refl

-- ---- turn by turn

module _ (x : ℕ) (set : List ℕ) (four : length set ≡ 4) where
  pub raise_start : Image (raised_by 0 x) set set
  raise_start = image_itself (λ y h. raised_none x y (held_small set four y h))

  pub raise_turn : (i : ℕ) (image next : List ℕ) → true ≡ member x i → Image (raised_by i x) set image → Image (raised_at i) image next
      → Image (raised_by (i + 1) x) set next
  raise_turn i image next h so_far more = image_same (λ y k. raised_there x i y (sym h)) (image_then so_far more)

  pub raise_pass : (i : ℕ) (image : List ℕ) → false ≡ member x i → Image (raised_by i x) set image → Image (raised_by (i + 1) x) set image
  raise_pass i image h so_far = image_same (λ y k. raised_absent x i y (sym h)) so_far

  module _ (firsts seconds : List ℕ) where
    pub cross_start : Image (crossed_by 0 x firsts seconds) set set
    cross_start = image_itself (λ y h. crossed_none x firsts seconds y (held_small set four y h))

    pub cross_turn : (i : ℕ) (image next : List ℕ) → Apart x firsts seconds → i < 8 → true ≡ flag_at x firsts i
        → Image (crossed_by i x firsts seconds) set image → Image (crossed_at (get_or seconds i 0 % 64) i) image next
        → Image (crossed_by (i + 1) x firsts seconds) set next
    cross_turn i image next apart l h so_far more =
        image_same (λ y k. crossed_there x firsts seconds i y apart l (held_small set four y k) (sym h)) (image_then so_far more)

    pub cross_pass : (i : ℕ) (image : List ℕ) → false ≡ flag_at x firsts i → Image (crossed_by i x firsts seconds) set image
        → Image (crossed_by (i + 1) x firsts seconds) set image
    cross_pass i image h so_far = image_same (λ y k. crossed_absent x firsts seconds i y (sym h)) so_far

    pub join_nothing : x ≡ 0 → Image (joined_by firsts seconds x) set set
    join_nothing e = image_itself (λ y h. joined_zero x firsts seconds y (held_small set four y h) e)

    pub join_image : (crossed raised : List ℕ) → Image (crossed_by 8 x firsts seconds) set crossed → Image (raised_by 8 x) crossed raised
        → Image (joined_by firsts seconds x) set raised
    join_image crossed raised one two = image_same (λ y h. joined_both x firsts seconds y) (image_then one two)
