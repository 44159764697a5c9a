-- Where marks rise, here and there, two elements stand in the same order as their likes: so the lowest wrong element is the like of the
-- lowest, and the verdict has the same N, A and B.
use Prim.Native.Nat.{ℕ, ◌≤◌, ◌<◌, ◌+◌}
use native.Mathlib.Omega.{arith}
use native.Mathlib.Decide.{dec_le}
use mathlib.Core.Path.{◌≡◌, refl, subst}
use mathlib.Core.List.{List}
use mathlib.Core.Logic.{◌↔◌, ◌⊎◌, inl, inr}
use Rattle.verdicts.specs.declared.Numbers.{Numbers}
use Rattle.pages.specs.Items.{Item, Items}
use Rattle.pages.specs.RightPages.{SomeElement}
use Rattle.programs.specs.Program.{template_at}
use Rattle.summaries.specs.Summaries.{Environment}
use Rattle.jobs.specs.Job.{Script}
use Rattle.jobs.specs.JobVerdict.{ScriptVerdict}
use Rattle.agreement.proofs.Marks.{Rises, RisesIn, AllRise, Stands, StandsIn, within, within_item, templates_in_order, template_rises}
use Rattle.agreement.proofs.JobVerdicts.{Marked, marked_apart, script_unique}
use Rattle.blank_text.specs.WithoutBlank.{SameButOffset}
use Rattle.blank_text.proofs.Alike.{Alike, nothing, blank_here, blank_there, both, AlikeItem, both_text, both_gap, both_element, Any}
use Rattle.blank_text.proofs.Scripts.{with_templates, Corresponds, carried}
use Rattle.blank_text.proofs.Offsets.{both_moved}

-- The mark of an element here, and that of its like there.
unfoldable mutual
  Paired : {φ φ' : Items} → Alike Any φ φ' → ℕ → ℕ → Type 0
  Paired nothing at at' = ⊥
  Paired (blank_here a) at at' = Paired a at at'
  Paired (blank_there a) at at' = Paired a at at'
  Paired (both i a) at at' = PairedIn i at at' ⊎ Paired a at at'

  PairedIn : {i i' : Item} → AlikeItem Any i i' → ℕ → ℕ → Type 0
  PairedIn both_text at at' = ⊥
  PairedIn both_gap at at' = ⊥
  PairedIn (both_element {mark = mark} {mark' = mark'} m a) at at' = ((mark ≡ at) × (mark' ≡ at')) ⊎ Paired a at at'

module _ (at at' : ℕ) where
  mutual
    unfolding Paired SomeElement

    paired_here : {φ φ' : Items} (a : Alike Any φ φ') → Paired a at at' → Stands at φ
    paired_here nothing p = p
    paired_here (blank_here a) p = inr (paired_here a p)
    paired_here (blank_there a) p = paired_here a p
    paired_here (both i a) (inl p) = inl (paired_here_in i p)
    paired_here (both i a) (inr p) = inr (paired_here a p)

    paired_here_in : {i i' : Item} (a : AlikeItem Any i i') → PairedIn a at at' → StandsIn at i
    paired_here_in both_text p = p
    paired_here_in both_gap p = p
    paired_here_in (both_element m a) (inl p) = inl p.0
    paired_here_in (both_element m a) (inr p) = inr (paired_here a p)

  mutual
    unfolding Paired SomeElement

    paired_there : {φ φ' : Items} (a : Alike Any φ φ') → Paired a at at' → Stands at' φ'
    paired_there nothing p = p
    paired_there (blank_here a) p = paired_there a p
    paired_there (blank_there a) p = inr (paired_there a p)
    paired_there (both i a) (inl p) = inl (paired_there_in i p)
    paired_there (both i a) (inr p) = inr (paired_there a p)

    paired_there_in : {i i' : Item} (a : AlikeItem Any i i') → PairedIn a at at' → StandsIn at' i'
    paired_there_in both_text p = p
    paired_there_in both_gap p = p
    paired_there_in (both_element m a) (inl p) = inl p.1
    paired_there_in (both_element m a) (inr p) = inr (paired_there a p)

-- What is alike is alike by its pairs.
module _ {M : ℕ → ℕ → Type 0} where
  mutual
    unfolding Paired

    by_pairs : {φ φ' : Items} (a : Alike Any φ φ') → ((at at' : ℕ) → Paired a at at' → M at at') → Alike M φ φ'
    by_pairs nothing h = nothing
    by_pairs (blank_here a) h = blank_here (by_pairs a h)
    by_pairs (blank_there a) h = blank_there (by_pairs a h)
    by_pairs (both i a) h = both (by_pairs_in i (λ at at' p. h at at' (inl p))) (by_pairs a (λ at at' p. h at at' (inr p)))

    by_pairs_in : {i i' : Item} (a : AlikeItem Any i i') → ((at at' : ℕ) → PairedIn a at at' → M at at') → AlikeItem M i i'
    by_pairs_in both_text h = both_text
    by_pairs_in both_gap h = both_gap
    by_pairs_in (both_element {mark = mark} {mark' = mark'} m a) h =
        both_element (h mark mark' (inl (refl, refl))) (by_pairs a (λ at at' p. h at at' (inr p)))

-- Two pairs stand in the same order here and there.
abbrev InOrder : ℕ → ℕ → ℕ → ℕ → Type 0
InOrder low low' at at' = (low ≤ at) ↔ (low' ≤ at')

before : {low low' at at' : ℕ} → low < at → low' < at' → InOrder low low' at at'
before h h' = (λ _. omega arith, λ _. omega arith)

behind : {low low' at at' : ℕ} → at < low → at' < low' → InOrder low low' at at'
behind h h' = (λ k. omega arith, λ k. omega arith)

module _ (low low' at at' : ℕ) where
  mutual
    unfolding Paired Rises

    in_order : {φ φ' : Items} (a : Alike Any φ φ') (from to from' to' : ℕ) → Rises from φ to → Rises from' φ' to'
        → Paired a low low' → Paired a at at' → InOrder low low' at at'
    in_order nothing from to from' to' r r' p q = absurd p
    in_order (blank_here a) from to from' to' r r' p q = in_order a r.0 to from' to' r.2 r' p q
    in_order (blank_there a) from to from' to' r r' p q = in_order a from to r'.0 to' r r'.2 p q
    in_order (both i a) from to from' to' r r' (inl p) (inl q) = in_order_in i from r.0 from' r'.0 r.1 r'.1 p q
    in_order (both {i = i} {i' = i'} {φ = φ} {φ' = φ'} b a) from to from' to' r r' (inl p) (inr q) =
        let h = within_item i from r.0 low r.1 (paired_here_in low low' b p) in
        let k = within φ r.0 to at r.2 (paired_here at at' a q) in
        let h' = within_item i' from' r'.0 low' r'.1 (paired_there_in low low' b p) in
        let k' = within φ' r'.0 to' at' r'.2 (paired_there at at' a q) in
        before (omega (arith, h, k)) (omega (arith, h', k'))
    in_order (both {i = i} {i' = i'} {φ = φ} {φ' = φ'} b a) from to from' to' r r' (inr p) (inl q) =
        let h = within_item i from r.0 at r.1 (paired_here_in at at' b q) in
        let k = within φ r.0 to low r.2 (paired_here low low' a p) in
        let h' = within_item i' from' r'.0 at' r'.1 (paired_there_in at at' b q) in
        let k' = within φ' r'.0 to' low' r'.2 (paired_there low low' a p) in
        behind (omega (arith, h, k)) (omega (arith, h', k'))
    in_order (both i a) from to from' to' r r' (inr p) (inr q) = in_order a r.0 to r'.0 to' r.2 r'.2 p q

    in_order_in : {i i' : Item} (a : AlikeItem Any i i') (from to from' to' : ℕ) → RisesIn from i to → RisesIn from' i' to'
        → PairedIn a low low' → PairedIn a at at' → InOrder low low' at at'
    in_order_in both_text from to from' to' r r' p q = absurd p
    in_order_in both_gap from to from' to' r r' p q = absurd p
    in_order_in (both_element m a) from to from' to' r r' (inl p) (inl q) = (λ _. omega (arith, p.1, q.1), λ _. omega (arith, p.0, q.0))
    in_order_in (both_element {mark = mark} {mark' = mark'} {φ = φ} {φ' = φ'} m a) from to from' to' r r' (inl p) (inr q) =
        let k = within φ (mark + 1) to at r.1 (paired_here at at' a q) in
        let k' = within φ' (mark' + 1) to' at' r'.1 (paired_there at at' a q) in
        before (omega (arith, p.0, k)) (omega (arith, p.1, k'))
    in_order_in (both_element {mark = mark} {mark' = mark'} {φ = φ} {φ' = φ'} m a) from to from' to' r r' (inr p) (inl q) =
        let k = within φ (mark + 1) to low r.1 (paired_here low low' a p) in
        let k' = within φ' (mark' + 1) to' low' r'.1 (paired_there low low' a p) in
        behind (omega (arith, q.0, k)) (omega (arith, q.1, k'))
    in_order_in (both_element {mark = mark} {mark' = mark'} m a) from to from' to' r r' (inr p) (inr q) =
        in_order a (mark + 1) to (mark' + 1) to' r.1 r'.1 p q

-- A lower template has the lower marks.
lower : (φs : List Items) (from to : ℕ) → AllRise from φs to → (mark mark' t u : ℕ) → Stands mark (template_at φs t) → Stands mark' (template_at φs u)
    → t < u → mark < mark'
lower φs from to r mark mark' t u s s' l = go (dec_le mark' mark)
  where
    go : Dec (mark' ≤ mark) → mark < mark'
    go (yes h) = absurd (omega (arith, templates_in_order φs from to mark' mark u t r s' s h))
    go (no h) = omega arith

module _ (π : Script) (φs' : List Items) (m : Marked π) (m' : Marked (with_templates π φs'))
    (alike : (t : ℕ) → Alike Any (template_at π.templates t) (template_at φs' t)) where
  abbrev Pairs : ℕ → ℕ → Type 0
  Pairs at at' = (t : ℕ) × Paired (alike t) at at'

  pairs_in_order : (low low' at at' : ℕ) → Pairs low low' → Pairs at at' → InOrder low low' at at'
  pairs_in_order low low' at at' (t, p) (u, q) = go (dec_le t u) (dec_le u t)
    where
      go : Dec (t ≤ u) → Dec (u ≤ t) → InOrder low low' at at'
      go (yes h) (yes k) =
          let same : u ≡ t = omega arith in
          let r = template_rises π.templates m.0 m.1 t m.2 in
          let r' = template_rises φs' m'.0 m'.1 t m'.2 in
          in_order low low' at at' (alike t) r.0 r.1 r'.0 r'.1 r.2 r'.2 p (subst (λ (k : ℕ). Paired (alike k) at at') same q)
      go (yes h) (no k) = before
          (lower π.templates m.0 m.1 m.2 low at t u (paired_here low low' (alike t) p) (paired_here at at' (alike u) q) (omega arith))
          (lower φs' m'.0 m'.1 m'.2 low' at' t u (paired_there low low' (alike t) p) (paired_there at at' (alike u) q) (omega arith))
      go (no h) d = behind
          (lower π.templates m.0 m.1 m.2 at low u t (paired_here at at' (alike u) q) (paired_here low low' (alike t) p) (omega arith))
          (lower φs' m'.0 m'.1 m'.2 at' low' u t (paired_there at at' (alike u) q) (paired_there low low' (alike t) p) (omega arith))

  pairs_correspond : Corresponds Pairs π.templates φs'
  pairs_correspond = record {
    alike = λ t. by_pairs (alike t) (λ at at' p. (t, p));
    stands = λ t at at' (u, p). (
      λ s. rw (marked_apart π m at t u s (paired_here at at' (alike u) p)) (paired_there at at' (alike u) p),
      λ s. rw (marked_apart (with_templates π φs') m' at' t u s (paired_there at at' (alike u) p)) (paired_here at at' (alike u) p),
    );
  }

  like_verdict : (E : ℕ → Environment) {v : Numbers} → ScriptVerdict π E v → (v' : Numbers) × ScriptVerdict (with_templates π φs') E v' × SameButOffset v v'
  like_verdict E o = let r = carried π φs' pairs_correspond pairs_in_order E o in (r.0, r.1, r.2.same)

-- Two scripts that differ in their templates alone, both of which have templates like the same ones.
pub same_numbers : (π : Script) (φs φs' : List Items) → Marked π → Marked (with_templates π φs) → Marked (with_templates π φs')
    → ((t : ℕ) → Alike Any (template_at π.templates t) (template_at φs' t)) → ((t : ℕ) → Alike Any (template_at φs t) (template_at φs' t))
    → (E : ℕ → Environment) {v v' : Numbers} → ScriptVerdict π E v → ScriptVerdict (with_templates π φs) E v' → SameButOffset v v'
same_numbers π φs φs' m n m' alike alike' E {v} {v'} o o' =
    let r = like_verdict π φs' m m' alike E o in
    let r' = like_verdict (with_templates π φs) φs' n m' alike' E o' in
    let q = script_unique (marked_apart (with_templates π φs') m') r'.1 r.1 in
    both_moved r.2 (subst (SameButOffset v') q r'.2)
