-- An element's tables and its rule's: what the element breaks.
use Rattle.std.specs.Prelude as Values
use Rattle.std.specs.Prelude.{Some}
use Prim.Native.Nat.{ℕ, suc, ◌+◌, ◌%◌}
use mathlib.Core.Path.{◌≡◌, refl, sym, ap, ap₂, subst, ◌∙◌}
use mathlib.Core.List.{List, [], ◌∷◌}
use mathlib.Core.Option.{Option, some}
use mathlib.Core.Bool.{Bool, true, false, not, ◌&&◌, ◌||◌, or-true, false≢true}
use native.Mathlib.Omega.{arith}
use lib.ListN.{length, get_or}
use lib.Dec.{eqb, ltb}
use borrow.Author.Tests.{eq-eqb, eqb-true}
use Rattle.sets.proofs.Booleans.{fails_left, fails_right}
use Rattle.sets.specs.Sets.{member}
use Rattle.sets.specs.Inner.Promises.{MembersWithin}
use Rattle.vocabularies.specs.Vocabulary.{Formula, conj, disj, neg, truth, attr, content, order, value, is_in}
use Rattle.vocabularies.specs.Vocabulary as Vocabularies
use Rattle.vocabularies.specs.Inner.Promises.{RuleKept}
use Rattle.pages.specs.Items.{Attribute}
use Rattle.pages.specs.RightPages.{names}
use Rattle.verdicts.specs.declared.Breach.{Breach}
use Rattle.verdicts.specs.declared.Breach.TheVariants.{Content, Clause}
use Rattle.verdicts.specs.declared.Breach.TheVariants as Breaches
use Rattle.judging.specs.declared.Shape.{Shape}
use Rattle.judging.specs.declared.Standing.{Standing}
use Rattle.vocabularies.specs.declared.Rule.{Rule}
use Rattle.judging.specs.Inner.Judgement.{Atoms, truth_of, atoms_of, all_in, broken_if, or_first, first_failing, is_false, breach_under, precedes, holds_value}
use Rattle.judging.specs.Inner.Promises.{first_place, last_place, table_atoms, broken_by, FirstFails, Naming, Containing, TellsOutcome}
use Rattle.judging.proofs.Booleans.{by_test, or_then_right}
use Rattle.judging.proofs.WordLaws.{none_precedes, precedes_none}

-- ---- lists within lists

module _ (allowed : List ℕ) where
  all_in_lem : (ns : List ℕ) → ((k : ℕ) → is_in k ns ≡ true → is_in k allowed ≡ true) → all_in ns allowed ≡ true
  unfolding all_in is_in
  all_in_lem [] h = refl
  all_in_lem (n ∷ ns) h =
      let e : is_in n allowed ≡ true = h n (rw (eq-eqb n n refl)) in
      rw e (all_in_lem ns (λ k i. h k (rw i (or-true (eqb k n)))))

  module _ (k : ℕ) (out : is_in k allowed ≡ false) where
    not_all_in : (ns : List ℕ) → is_in k ns ≡ true → all_in ns allowed ≡ false
    unfolding all_in is_in
    not_all_in [] i = absurd (false≢true i)
    not_all_in (n ∷ ns) i = by_test (eqb k n)
        (λ e. fails_left (is_in n allowed) (all_in ns allowed) (rw (eqb-true k n e) at out))
        (λ e. fails_right (is_in n allowed) (all_in ns allowed) (not_all_in ns (or_then_right (eqb k n) (is_in k ns) e i)))

-- A set within another, as lists.
pub within_lists : (a b : ℕ) (ns allowed : List ℕ) → ((k : ℕ) → member a k ≡ is_in k ns) → ((k : ℕ) → member b k ≡ is_in k allowed)
    → (t : Bool) → MembersWithin a b t → all_in ns allowed ≡ t
within_lists a b ns allowed is is' true w = all_in_lem allowed ns (λ k i. sym (is' k) ∙ w k (is k ∙ i))
within_lists a b ns allowed is is' false w = not_all_in allowed w.0 (sym (is' w.0) ∙ w.3) ns (sym (is w.0) ∙ w.2)

-- ---- atoms that agree

record Same (A B : Atoms) : Type 0 where
  attrs : (a : ℕ) → A.attr a ≡ B.attr a
  contents : (c : ℕ) → A.content c ≡ B.content c
  orders : (c d : ℕ) → A.order c d ≡ B.order c d
  values : (a m : ℕ) → A.value a m ≡ B.value a m

module _ (A B : Atoms) (s : Same A B) where
  same_truth : (ψ : Formula) → truth_of A ψ ≡ truth_of B ψ
  unfolding truth_of
  same_truth (conj ψ₁ ψ₂) = ap₂ ◌&&◌ (same_truth ψ₁) (same_truth ψ₂)
  same_truth (disj ψ₁ ψ₂) = ap₂ ◌||◌ (same_truth ψ₁) (same_truth ψ₂)
  same_truth (neg ψ) = ap not (same_truth ψ)
  same_truth truth = refl
  same_truth (attr a) = s.attrs a
  same_truth (content c) = s.contents c
  same_truth (order c d) = s.orders c d
  same_truth (value a m) = s.values a m

  same_failing : (k : ℕ) (ψs : List Formula) → first_failing (is_false A) k ψs ≡ first_failing (is_false B) k ψs
  unfolding first_failing
  same_failing k [] = refl
  same_failing k (ψ ∷ ψs) = ap₂ or_first (ap (λ (t : Bool). broken_if (not t) (Clause k)) (same_truth ψ)) (same_failing (suc k) ψs)

module _ (δ : List Attribute) (w : List ℕ) (shape : Shape) (strings : List ℕ) (order : List Standing) (count : ℕ)
    (N : Naming δ shape.names strings) (C : Containing w shape.contents order count) where
  order_same : (c d : ℕ) → (member shape.contents c && (member shape.contents d && ltb (first_place order d) (last_place order c))) ≡ precedes w d c
  order_same c d = by_test (is_in c w)
      (λ e. by_test (is_in d w)
      (λ e'. rw (C.has c, e, C.has d, e') (C.ordered c d e e'))
      (λ e'. rw (C.has c, e, C.has d, e') (sym (precedes_none w d c e'))))
      (λ e. rw (C.has c, e) (sym (none_precedes w d c e)))

  value_same : (a m : ℕ) → (not (member shape.names a) || member m (get_or strings (a % 32) 0)) ≡ (not (is_in a (names δ)) || holds_value δ a m)
  value_same a m = by_test (is_in a (names δ)) (λ e. rw (N.has a, e) (N.holds a m e)) (λ e. rw (N.has a, e))

  table_same : Same (table_atoms shape strings order) (atoms_of δ w)
  unfolding atoms_of
  table_same = record {
    attrs = N.has;
    contents = C.has;
    orders = λ c d. ap not (order_same c d);
    values = value_same;
  }

  module _ (v : List ℕ) (R : Vocabularies.Rule) (rule : Rule) (T : RuleKept v R rule) where
    abbrev Broken : Option Breach → Type 0
    Broken o = o ≡ breach_under R δ w

    names_wrong : MembersWithin shape.names rule.attributes false → Broken (some Breaches.Attribute)
    unfolding breach_under
    names_wrong h = rw (within_lists shape.names rule.attributes (names δ) R.attributes N.has T.allows false h)

    module _ (names_right : MembersWithin shape.names rule.attributes true) where
      contents_wrong : MembersWithin shape.contents rule.contents false → Broken (some Content)
      unfolding breach_under
      contents_wrong h =
          rw (
            within_lists shape.names rule.attributes (names δ) R.attributes N.has T.allows true names_right,
            within_lists shape.contents rule.contents w R.contents C.has T.holds false h,
          )

      clauses_tell : MembersWithin shape.contents rule.contents true → (o : Option Breach) → FirstFails (table_atoms shape strings order) v rule.clauses.at 0 o → Broken o
      unfolding breach_under
      clauses_tell h o H =
          let f = length v + length v + 2 in
          let q = T.stands f (omega arith) in
          let e : o ≡ first_failing (is_false (atoms_of δ w)) 0 R.clauses = H f q.0 R.clauses q.1 ∙ same_failing _ _ table_same 0 R.clauses in
          rw (
            within_lists shape.names rule.attributes (names δ) R.attributes N.has T.allows true names_right,
            within_lists shape.contents rule.contents w R.contents C.has T.holds true h,
          ) e

-- What the three tests tell, in the code's order.
module _ (v : List ℕ) (rule : Rule) (shape : Shape) (strings : List ℕ) (order : List Standing) where
  pub names_fail : (t : Bool) → MembersWithin shape.names rule.attributes t → t ≡ false → TellsOutcome v rule shape strings order (Some Breaches.Attribute)
  names_fail t h e R δ w count T N C = names_wrong δ w shape strings order count N C v R rule T (subst (MembersWithin shape.names rule.attributes) e h)

  module _ (t u : Bool) (h : MembersWithin shape.names rule.attributes t) (e : t ≡ true) (h' : MembersWithin shape.contents rule.contents u) where
    pub contents_fail : u ≡ false → TellsOutcome v rule shape strings order (Some Content)
    contents_fail e' R δ w count T N C =
        contents_wrong δ w shape strings order count N C v R rule T (subst (MembersWithin shape.names rule.attributes) e h) (subst (MembersWithin shape.contents rule.contents) e' h')

    pub clauses_decide : u ≡ true → (r : Values.Option Breach) → FirstFails (table_atoms shape strings order) v rule.clauses.at 0 (broken_by r) → TellsOutcome v rule shape strings order r
    clauses_decide e' r H R δ w count T N C =
        clauses_tell δ w shape strings order count N C v R rule T (subst (MembersWithin shape.names rule.attributes) e h) (subst (MembersWithin shape.contents rule.contents) e' h') (broken_by r) H
