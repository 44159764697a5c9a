-- What of an entry passes: item by item, and against the words of an entry.
use Prim.Native.Nat.{ℕ}
use mathlib.Core.Path.{◌≡◌, refl, sym, ap, ◌∙◌}
use mathlib.Core.List.{List, [], ◌∷◌}
use mathlib.Core.Bool.{Bool, true, false, not, ◌&&◌, ◌||◌, and-false, or-false, false≢true}
use mathlib.Core.Logic.{inl, inr}
use lib.Dec.{eqb}
use borrow.Author.Tests.{eqb-true}
use Rattle.sets.specs.Sets.{member}
use Rattle.summaries.specs.Proposal.{Claim, root, edge, string, gap_from, attribute_gap_from, Holding, claim, any_at}
use Rattle.summaries.specs.Summaries.{Summary, Within, same_code, says_claim, held}
use Rattle.strings.specs.declared.Values.{Values}
use Rattle.entries.specs.declared.Passing.{Passing}
use Rattle.strings.specs.Inner.Promises.{holds_value}
use Rattle.entries.specs.Inner.Passing.{plugs, plugged, fills, filled, stays, added, passed, Decides}
use Rattle.entries.proofs.Tests.{decides, decides_map}
use Rattle.sets.proofs.Booleans.{or_left, or_right, or_cases, and_both, and_left, and_right, refuted}
use Rattle.graphs.proofs.Claims.{says_itself, says_alone, says_any}

-- What two summaries hold passes of the one, or of the other.
split : (t a b : Bool) → ((t && (a || b)) || false) ≡ (((t && a) || false) || ((t && b) || false))
split true true b = refl
split true false b = refl
split false a b = refl

split_added : (a b t u v m : Bool) → ((a || b) || (t && ((u || v) && m))) ≡ ((a || (t && (u && m))) || (b || (t && (v && m))))
split_added true b t u v m = refl
split_added false true true true v m = sym (or_true m)
  where
    or_true : (m : Bool) → (m || true) ≡ true
    or_true true = refl
    or_true false = refl
split_added false true true false v m = refl
split_added false true false u v m = refl
split_added false false true true v true = refl
split_added false false true true v false = sym (and-false v)
split_added false false true false v m = refl
split_added false false false u v m = refl

module _ (how : Passing) where
  pub passed_or : (S T : Summary) (c : Claim) → passed how (λ d. S d || T d) c ≡ (passed how S c || passed how T c)
  passed_or S T (root n) = split how.roots (S (root n)) (T (root n))
  passed_or S T (edge n g m) = split_added (S (edge n g m)) (T (edge n g m)) (plugs how.plug g) (S (gap_from g n)) (T (gap_from g n)) (plugged how.plug m)
  passed_or S T (string n h s) = split_added (S (string n h s)) (T (string n h s)) (fills how.fill h) (S (attribute_gap_from h n)) (T (attribute_gap_from h n)) (filled how.fill s)
  passed_or S T (gap_from g n) = split (not (plugs how.plug g)) (S (gap_from g n)) (T (gap_from g n))
  passed_or S T (attribute_gap_from h n) = split (not (fills how.fill h)) (S (attribute_gap_from h n)) (T (attribute_gap_from h n))

  nothing_passes : (c : Claim) → passed how (λ d. false) c ≡ false
  nothing_passes (root n) = rw (and-false how.roots)
  nothing_passes (edge n g m) = rw (and-false (plugs how.plug g))
  nothing_passes (string n h s) = rw (and-false (fills how.fill h))
  nothing_passes (gap_from g n) = rw (and-false (not (plugs how.plug g)))
  nothing_passes (attribute_gap_from h n) = rw (and-false (not (fills how.fill h)))

  module _ (R : Summary) where
    abbrev pub Passes : Holding → Type 0
    Passes y = Within (passed how (says_claim y)) R

    abbrev pub AllPass : List Holding → Type 0
    AllPass ys = Within (passed how (held says_claim ys)) R

    pub none_pass : AllPass []
    unfolding held
    none_pass c e = absurd (false≢true (sym (nothing_passes c) ∙ e))

    module _ (y : Holding) (ys : List Holding) where
      more_or : (c : Claim) → passed how (held says_claim (y ∷ ys)) c ≡ (passed how (says_claim y) c || passed how (held says_claim ys) c)
      unfolding held
      more_or c = passed_or (says_claim y) (held says_claim ys) c

      pub more_pass : Passes y → AllPass ys → AllPass (y ∷ ys)
      more_pass p q c e = elim (or_cases (passed how (says_claim y) c) (passed how (held says_claim ys) c) (sym (more_or c) ∙ e)) [ inl h ↦ p c h | inr h ↦ q c h ]

      pub first_passes : AllPass (y ∷ ys) → Passes y
      first_passes q c e = q c (more_or c ∙ or_left _ _ e)

      pub rest_pass : AllPass (y ∷ ys) → AllPass ys
      rest_pass q c e = q c (more_or c ∙ or_right (passed how (says_claim y) c) _ e)

    -- An item that stays and adds nothing passes where its claim is held.
    adds_none : (c : Claim) → ((g n : ℕ) → says_claim (claim c) (gap_from g n) ≡ false) → ((h n : ℕ) → says_claim (claim c) (attribute_gap_from h n) ≡ false)
        → (d : Claim) → added how (says_claim (claim c)) d ≡ false
    adds_none c f g (root n) = refl
    adds_none c f g (edge n k m) = rw (f k n) (and-false (plugs how.plug k))
    adds_none c f g (string n h s) = rw (g h n) (and-false (fills how.fill h))
    adds_none c f g (gap_from k n) = refl
    adds_none c f g (attribute_gap_from h n) = refl

    stays_passes : (c : Claim) → stays how c ≡ true → ((d : Claim) → added how (says_claim (claim c)) d ≡ false) → (b : Bool) → R c ≡ b → Decides b (Passes (claim c))
    stays_passes c st ad b is = decides b
        (λ e d p. elim (or_cases (stays how d && says_claim (claim c) d) (added how (says_claim (claim c)) d) p) [
          | inl h ↦ let q : c ≡ d = says_alone c d (and_right (stays how d) _ h) in rw (← q) (is ∙ e)
          | inr h ↦ absurd (false≢true (sym (ad d) ∙ h))
        ])
        (λ w. sym is ∙ w c (or_left _ _ (and_both _ _ st (says_itself c))))

    pub root_passes : (n : ℕ) (b : Bool) → how.roots ≡ true → R (root n) ≡ b → Decides b (Passes (claim (root n)))
    unfolding same_code
    root_passes n b e is = stays_passes (root n) e (adds_none (root n) (λ g m. refl) (λ h m. refl)) b is

    pub root_stays_out : (n : ℕ) → how.roots ≡ false → Passes (claim (root n))
    unfolding same_code
    root_stays_out n e d p = elim (or_cases (stays how d && says_claim (claim (root n)) d) (added how (says_claim (claim (root n))) d) p) [
      | inl h ↦ let q : root n ≡ d = says_alone (root n) d (and_right (stays how d) _ h) in
          absurd (false≢true (sym e ∙ (ap (stays how) q ∙ and_left (stays how d) _ h)))
      | inr h ↦ absurd (false≢true (sym (adds_none (root n) (λ g m. refl) (λ g m. refl) d) ∙ h))
    ]

    pub edge_passes : (n g m : ℕ) (b : Bool) → R (edge n g m) ≡ b → Decides b (Passes (claim (edge n g m)))
    unfolding same_code
    edge_passes n g m b is = stays_passes (edge n g m) refl (adds_none (edge n g m) (λ k l. refl) (λ h l. refl)) b is

    pub string_passes : (n h s : ℕ) (b : Bool) → R (string n h s) ≡ b → Decides b (Passes (claim (string n h s)))
    unfolding same_code
    string_passes n h s b is = stays_passes (string n h s) refl (adds_none (string n h s) (λ k l. refl) (λ k l. refl)) b is

    pub any_passes : (n h : ℕ) (there : Values) → ((t : ℕ) → R (string n h t) ≡ holds_value there t) → (b : Bool) → Decides b (Within (λ t. true) (holds_value there)) → Decides b (Passes (any_at n h))
    any_passes n h there is b v = decides_map b (λ w d p. covers w d (stays_or d p)) (λ w t e. sym (is t) ∙ w (string n h t) (or_left _ _ (says_any n h t))) v
      where
        stays_or : (d : Claim) → passed how (says_claim (any_at n h)) d ≡ true → says_claim (any_at n h) d ≡ true
        stays_or (root m) p = absurd (false≢true (sym (and-false how.roots) ∙ (sym (or-false _) ∙ p)))
        stays_or (edge m g k) p = absurd (false≢true (sym (and-false (plugs how.plug g)) ∙ p))
        stays_or (string m k s) p = sym (rw (and-false (fills how.fill k)) (or-false _)) ∙ p
        stays_or (gap_from g m) p = absurd (false≢true (sym (and-false (not (plugs how.plug g))) ∙ (sym (or-false _) ∙ p)))
        stays_or (attribute_gap_from k m) p = absurd (false≢true (sym (and-false (not (fills how.fill k))) ∙ (sym (or-false _) ∙ p)))

        covers : Within (λ t. true) (holds_value there) → (d : Claim) → says_claim (any_at n h) d ≡ true → R d ≡ true
        covers w (root m) p = absurd (false≢true p)
        covers w (edge m g k) p = absurd (false≢true p)
        covers w (string m k s) p =
            let q : m ≡ n = eqb-true m n (and_left _ _ p) in
            let r : k ≡ h = eqb-true k h (and_right (eqb m n) _ p) in
            rw (q, r) (is s ∙ w s refl)
        covers w (gap_from g m) p = absurd (false≢true p)
        covers w (attribute_gap_from k m) p = absurd (false≢true p)

    -- Origins of a gap that is not plugged, and of one that is: edges to the roots plugged in stand for those.
    module _ (g n : ℕ) where
      adds_edges : (d : Claim) → added how (says_claim (claim (gap_from g n))) d ≡ true → (plugs how.plug g ≡ true) × (m : ℕ) × (edge n g m ≡ d) × (plugged how.plug m ≡ true)
      unfolding same_code
      adds_edges (root k) p = absurd (false≢true p)
      adds_edges (edge k l m) p =
          let a : plugs how.plug l ≡ true = and_left _ _ p in
          let b : (says_claim (claim (gap_from g n)) (gap_from l k) && plugged how.plug m) ≡ true = and_right (plugs how.plug l) _ p in
          let q : gap_from g n ≡ gap_from l k = says_alone (gap_from g n) (gap_from l k) (and_left _ _ b) in
          let r : g ≡ l = cc in
          let r' : n ≡ k = cc in
          (rw r a, m, rw (r, r'), and_right (says_claim (claim (gap_from g n)) (gap_from l k)) _ b)
      adds_edges (string k h s) p = absurd (false≢true (sym (and-false (fills how.fill h)) ∙ p))
      adds_edges (gap_from k l) p = absurd (false≢true p)
      adds_edges (attribute_gap_from h k) p = absurd (false≢true p)

      pub gap_passes : plugs how.plug g ≡ false → (b : Bool) → R (gap_from g n) ≡ b → Decides b (Passes (claim (gap_from g n)))
      gap_passes other b is = stays_passes (gap_from g n) (rw other) (λ d. refuted _ λ p. false≢true (sym other ∙ (adds_edges d p).0)) b is

      module _ (e : plugs how.plug g ≡ true) (targets : ℕ) (is : (m : ℕ) → R (edge n g m) ≡ member targets m) where
        to_edges : Passes (claim (gap_from g n)) → (m : ℕ) → plugged how.plug m ≡ true → member targets m ≡ true
        to_edges w m p = sym (is m) ∙ w (edge n g m) (or_right (says_claim (claim (gap_from g n)) (edge n g m)) _ (and_both _ _ e (and_both _ _ (says_itself (gap_from g n)) p)))

        from_edges : ((m : ℕ) → plugged how.plug m ≡ true → member targets m ≡ true) → Passes (claim (gap_from g n))
        from_edges w d p = elim (or_cases (stays how d && says_claim (claim (gap_from g n)) d) (added how (says_claim (claim (gap_from g n))) d) p) [
          | inl h ↦ let q : gap_from g n ≡ d = says_alone (gap_from g n) d (and_right (stays how d) _ h) in
              let z : not (plugs how.plug g) ≡ true = ap (stays how) q ∙ and_left (stays how d) _ h in
              absurd (false≢true (rw e at z))
          | inr h ↦ let a = adds_edges d h in rw (← a.2) (is a.1 ∙ w a.1 a.3)
        ]

        pub plugged_passes : (b : Bool) → Decides b (Within (plugged how.plug) (member targets)) → Decides b (Passes (claim (gap_from g n)))
        plugged_passes b w = decides_map b from_edges to_edges w

    -- The same for attribute gaps, with strings.
    module _ (h n : ℕ) where
      adds_strings : (d : Claim) → added how (says_claim (claim (attribute_gap_from h n))) d ≡ true → (fills how.fill h ≡ true) × (t : ℕ) × (string n h t ≡ d) × (filled how.fill t ≡ true)
      unfolding same_code
      adds_strings (root k) p = absurd (false≢true p)
      adds_strings (edge k l m) p = absurd (false≢true (sym (and-false (plugs how.plug l)) ∙ p))
      adds_strings (string k l t) p =
          let a : fills how.fill l ≡ true = and_left _ _ p in
          let b : (says_claim (claim (attribute_gap_from h n)) (attribute_gap_from l k) && filled how.fill t) ≡ true = and_right (fills how.fill l) _ p in
          let q : attribute_gap_from h n ≡ attribute_gap_from l k = says_alone (attribute_gap_from h n) (attribute_gap_from l k) (and_left _ _ b) in
          let r : h ≡ l = cc in
          let r' : n ≡ k = cc in
          (rw r a, t, rw (r, r'), and_right (says_claim (claim (attribute_gap_from h n)) (attribute_gap_from l k)) _ b)
      adds_strings (gap_from k l) p = absurd (false≢true p)
      adds_strings (attribute_gap_from k l) p = absurd (false≢true p)

      pub attribute_passes : fills how.fill h ≡ false → (b : Bool) → R (attribute_gap_from h n) ≡ b → Decides b (Passes (claim (attribute_gap_from h n)))
      attribute_passes other b is = stays_passes (attribute_gap_from h n) (rw other) (λ d. refuted _ λ p. false≢true (sym other ∙ (adds_strings d p).0)) b is

      module _ (e : fills how.fill h ≡ true) (there : Values) (is : (t : ℕ) → R (string n h t) ≡ holds_value there t) where
        to_strings : Passes (claim (attribute_gap_from h n)) → Within (filled how.fill) (holds_value there)
        to_strings w t p = sym (is t) ∙ w (string n h t) (or_right (says_claim (claim (attribute_gap_from h n)) (string n h t)) _ (and_both _ _ e (and_both _ _ (says_itself (attribute_gap_from h n)) p)))

        from_strings : Within (filled how.fill) (holds_value there) → Passes (claim (attribute_gap_from h n))
        from_strings w d p = elim (or_cases (stays how d && says_claim (claim (attribute_gap_from h n)) d) (added how (says_claim (claim (attribute_gap_from h n))) d) p) [
          | inl k ↦ let q : attribute_gap_from h n ≡ d = says_alone (attribute_gap_from h n) d (and_right (stays how d) _ k) in
              let z : not (fills how.fill h) ≡ true = ap (stays how) q ∙ and_left (stays how d) _ k in
              absurd (false≢true (rw e at z))
          | inr k ↦ let a = adds_strings d k in rw (← a.2) (is a.1 ∙ w a.1 a.3)
        ]

        pub filled_passes : (b : Bool) → Decides b (Within (filled how.fill) (holds_value there)) → Decides b (Passes (claim (attribute_gap_from h n)))
        filled_passes b w = decides_map b from_strings to_strings w
