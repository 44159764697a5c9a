-- Bytes laid into a buffer: writers in sequence, what a caller reads off, the part of a buffer that was lent, and bytes that are copied.
use Prim.Native.Nat.{ℕ, suc, ◌+◌, ◌-◌, ◌≤◌, ◌<◌}
use mathlib.Core.Path.{◌≡◌, refl, sym, ap, ◌∙◌}
use mathlib.Core.List.{List, [], ◌∷◌, ◌++◌, append_assoc, append-nil}
use native.Mathlib.Numerals.{add-one}
use native.Mathlib.Omega.{arith}
use lib.ListN.{length, get_or, set, take, drop, length-set, length-append, length-drop, drop_of_length-le}
use lib.Seq.{paste, sets, sets-eq, drop-drop, take_all, take-suc, length-take-le, drop_at, take-append_seam, drop-set-lt, drop-set-add, take-set-le, get_or-take, get_or-drop}
use Rattle.memory.specs.Inner.Laid.{laid, Writes}

pub laid_nil : (out : List ℕ) (at : ℕ) → laid out at [] ≡ out
unfolding laid
laid_nil out at = refl

pub laid_one : (out : List ℕ) (at b : ℕ) → set out at b ≡ laid out at (b ∷ [])
unfolding laid
laid_one out at b = refl

pub laid_length : (out : List ℕ) (at : ℕ) (bs : List ℕ) → length (laid out at bs) ≡ length out
unfolding laid
laid_length out at [] = refl
laid_length out at (b ∷ bs) = laid_length (set out at b) (at + 1) bs ∙ length-set out at b

-- Two writers in sequence.
pub laid_append : (out : List ℕ) (at : ℕ) (a b : List ℕ) → laid (laid out at a) (at + length a) b ≡ laid out at (a ++ b)
unfolding laid
laid_append out at [] b = ap (λ (k : ℕ). laid out k b) (omega arith)
laid_append out at (x ∷ a) b = let e : at + suc (length a) ≡ at + 1 + length a = omega arith in rw e (laid_append (set out at x) (at + 1) a b)

laid_sets : (out : List ℕ) (at : ℕ) (bs : List ℕ) → laid out at bs ≡ sets out at bs
unfolding laid
laid_sets out at [] = refl
laid_sets out at (b ∷ bs) = laid_sets (set out at b) (at + 1) bs ∙ ap (λ (k : ℕ). sets (set out at b) k bs) (add-one at)

pub laid_is : (out : List ℕ) (at : ℕ) (bs : List ℕ) → at + length bs ≤ length out → laid out at bs ≡ take at out ++ (bs ++ drop (at + length bs) out)
laid_is out at bs h = laid_sets out at bs ∙ sets-eq bs out at h ∙ append_assoc (take at out) bs (drop (at + length bs) out)

-- The first n elements of a list, pasted over a buffer.
pub laid_paste : (out : List ℕ) (at : ℕ) (bs : List ℕ) (n : ℕ) → at + n ≤ length out → n ≤ length bs → paste out at bs n ≡ laid out at (take n bs)
laid_paste out at bs n fits few =
    let k : length (take n bs) ≡ n = length-take-le n bs few in
    append_assoc (take at out) (take n bs) (drop (at + n) out)
    ∙ ap (λ (i : ℕ). take at out ++ (take n bs ++ drop (at + i) out)) (sym k)
    ∙ sym (laid_is out at (take n bs) (omega arith))

-- The part from a place on was lent, written from its start on, and comes back.
pub part_laid : (xs ys : List ℕ) (p : ℕ) (bs : List ℕ) → p + length bs ≤ length xs → ys ≡ laid (take (length xs - p) (drop p xs)) 0 bs
    → take p xs ++ (ys ++ drop (length xs - p) (drop p xs)) ≡ take p xs ++ bs ++ drop (p + length bs) xs
part_laid xs ys p bs h e =
    let d : length (drop p xs) ≡ length xs - p = length-drop p xs in
    let t : take (length xs - p) (drop p xs) ≡ drop p xs = take_all (length xs - p) (drop p xs) (omega arith) in
    let z : drop (length xs - p) (drop p xs) ≡ [] = drop_of_length-le (drop p xs) {i = length xs - p} (omega arith) in
    let n : 0 + length bs ≡ length bs = omega arith in
    rw (z, append-nil, e, t)
    (ap (λ (l : List ℕ). take p xs ++ l) (laid_is (drop p xs) 0 bs (omega arith) ∙ ap (λ (k : ℕ). bs ++ drop k (drop p xs)) n ∙ ap (λ (l : List ℕ). bs ++ l) (drop-drop (length bs) p xs))
    ∙ sym (append_assoc (take p xs) bs (drop (p + length bs) xs)))

-- ---- writers

pub writes_none : (out : List ℕ) (at : ℕ) → Writes out at [] at out
writes_none out at = (omega arith, sym (laid_nil out at))

pub writes_length : (out : List ℕ) (at : ℕ) (bs : List ℕ) (r : ℕ) (after : List ℕ) → Writes out at bs r after → length after ≡ length out
writes_length out at bs r after w = ap length w.1 ∙ laid_length out at bs

pub writes_same : (out : List ℕ) (at : ℕ) (a b : List ℕ) (r : ℕ) (after : List ℕ) → b ≡ a → Writes out at a r after → Writes out at b r after
writes_same out at a b r after e w = rw e w

pub writes_then : (out : List ℕ) (at : ℕ) (a b : List ℕ) (n : ℕ) (half : List ℕ) (r : ℕ) (after : List ℕ)
    → Writes out at a n half → Writes half n b r after → Writes out at (a ++ b) r after
writes_then out at a b n half r after (en, eh) (er, ea) = (
  omega (arith, er, en, length-append a b),
  ea ∙ ap (λ (o : List ℕ). laid o n b) eh ∙ ap (λ (k : ℕ). laid (laid out at a) k b) en ∙ laid_append out at a b,
)

-- What is to follow fits too.
pub writes_fits : (out : List ℕ) (at : ℕ) (a b : List ℕ) (n : ℕ) (half : List ℕ) → Writes out at a n half → at + length (a ++ b) ≤ length out → n + length b ≤ length half
writes_fits out at a b n half (en, eh) h = omega (arith, en, ap length eh, laid_length out at a, length-append a b)

-- ---- what a part of the buffer is then

pub laid_there : (out : List ℕ) (at : ℕ) (bs : List ℕ) → at + length bs ≤ length out → take (length bs) (drop at (laid out at bs)) ≡ bs
laid_there out at bs h =
    let n : length (take at out) ≡ at = length-take-le at out (omega arith) in
    rw (laid_is out at bs h, drop_at (take at out) (bs ++ drop (at + length bs) out) at n) (take-append_seam bs (drop (at + length bs) out))

pub laid_after : (out : List ℕ) (at : ℕ) (bs : List ℕ) (k : ℕ) → at + length bs ≤ k → drop k (laid out at bs) ≡ drop k out
unfolding laid
laid_after out at [] k h = refl
laid_after out at (b ∷ bs) k h = laid_after (set out at b) (at + 1) bs k (omega arith) ∙ drop-set-lt k out at b (omega arith)

pub laid_before : (out : List ℕ) (at : ℕ) (bs : List ℕ) (k n : ℕ) → k + n ≤ at → take n (drop k (laid out at bs)) ≡ take n (drop k out)
unfolding laid
laid_before out at [] k n h = refl
laid_before out at (b ∷ bs) k n h =
    let s : at ≡ k + (at - k) = omega arith in
    laid_before (set out at b) (at + 1) bs k n (omega arith)
    ∙ ap (λ (i : ℕ). take n (drop k (set out i b))) s
    ∙ ap (take n) (drop-set-add k out (at - k) b)
    ∙ take-set-le n (drop k out) (at - k) b (omega arith)

-- ---- bytes that are copied further up

laid_byte : (out : List ℕ) (at : ℕ) (bs : List ℕ) (k : ℕ) → k < at → get_or (laid out at bs) k 0 ≡ get_or out k 0
laid_byte out at bs k l = sym (alone (laid out at bs)) ∙ ap (λ (xs : List ℕ). get_or xs 0 0) (laid_before out at bs k 1 (omega arith)) ∙ alone out
  where
    alone : (xs : List ℕ) → get_or (take 1 (drop k xs)) 0 0 ≡ get_or xs k 0
    alone xs = let e : k + 0 ≡ k = omega arith in get_or-take 1 (drop k xs) 0 0 (omega arith) ∙ get_or-drop k xs 0 0 ∙ ap (λ (i : ℕ). get_or xs i 0) e

-- One more after what was laid.
laid_snoc : (out : List ℕ) (at : ℕ) (bs : List ℕ) (i : ℕ) → i < length bs → set (laid out at (take i bs)) (at + i) (get_or bs i 0) ≡ laid out at (take (i + 1) bs)
laid_snoc out at bs i h =
    let n : length (take i bs) ≡ i = length-take-le i bs (omega arith) in
    let s : take (i + 1) bs ≡ take i bs ++ (get_or bs i 0 ∷ []) = rw (add-one i) (take-suc bs i 0 h) in
    laid_one (laid out at (take i bs)) (at + i) (get_or bs i 0)
    ∙ ap (λ (k : ℕ). laid (laid out at (take i bs)) (at + k) (get_or bs i 0 ∷ [])) (sym n)
    ∙ laid_append out at (take i bs) (get_or bs i 0 ∷ [])
    ∙ ap (laid out at) (sym s)

module _ (out : List ℕ) (from at count : ℕ) where
  -- The first bytes are copied.
  abbrev pub Copied : ℕ → List ℕ → Type 0
  Copied i half = half ≡ laid out at (take i (drop from out))

  pub copied_none : Copied 0 out
  copied_none = sym (laid_nil out at)

  module _ (below : from + count ≤ at) (fits : at + count ≤ length out) where
    pub copied_more : (i : ℕ) (half : List ℕ) → i < count → Copied i half → Copied (i + 1) (set half (at + i) (get_or half (from + i) 0))
    copied_more i half l e =
        let byte : get_or half (from + i) 0 ≡ get_or (drop from out) i 0 = ap (λ (xs : List ℕ). get_or xs (from + i) 0) e ∙ laid_byte out at (take i (drop from out)) (from + i) (omega arith) ∙ sym (get_or-drop from out i 0) in
        rw (byte, e) (laid_snoc out at (drop from out) i (omega (arith, length-drop from out)))

    pub copied_all : (i : ℕ) (half : List ℕ) → i ≡ count → Copied i half → Writes out at (take count (drop from out)) (at + count) half
    copied_all i half s e =
        (omega (arith, length-take-le count (drop from out) (omega (arith, length-drop from out))), e ∙ ap (λ (k : ℕ). laid out at (take k (drop from out))) s)
