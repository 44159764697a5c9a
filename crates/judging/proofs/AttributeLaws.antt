-- Attributes one after the other, and what is added to their tables.
use Prim.Native.Nat.{ℕ, ◌%◌, ◌≤◌, ◌<◌}
use mathlib.Core.Path.{◌≡◌, refl, sym, ap, subst, ◌∙◌}
use mathlib.Core.List.{List, [], ◌∷◌}
use mathlib.Core.Bool.{Bool, true, false, cond, ◌&&◌, ◌||◌, or-false, false≢true}
use native.Mathlib.Omega.{arith}
use lib.ListN.{length, get_or, set}
use lib.Seq.{get_or-set_same, get_or-set_other}
use lib.Dec.{eqb}
use borrow.Author.Tests.{eq-eqb, ne_eqb, eqb-true, eqb-false}
use Rattle.sets.specs.Sets.{member}
use Rattle.sets.proofs.Laws.{member_zero}
use Rattle.commands.specs.declared.Position.{Position}
use Rattle.commands.specs.Reading.{whole}
use Rattle.vocabularies.specs.Vocabulary.{is_in}
use Rattle.pages.specs.declared.Kind.TheVariants.{Template, Page}
use Rattle.pages.specs.declared.AttributeHere.{AttributeHere}
use Rattle.pages.specs.declared.AttributeHere.TheVariants.{Fixed, Open, Done}
use Rattle.pages.specs.Items.{string, Attribute}
use Rattle.pages.specs.ItemReading.{attributes}
use Rattle.pages.specs.RightPages.{names}
use Rattle.pages.specs.Inner.Steps.{attribute_here}
use Rattle.pages.proofs.Steps.{fixed_first, open_first, none_first}
use Rattle.judging.specs.declared.Named.{Named}
use Rattle.judging.specs.Inner.Judgement.{holds_value}
use Rattle.judging.specs.Inner.Promises.{Names}
use Rattle.judging.proofs.Booleans.{by_test, or_then_right}

-- What the attributes δ add to the names and the strings before them. None of the names read before is among theirs.
pub record Added (earlier : List ℕ) (named : ℕ) (held : List ℕ) (δ : List Attribute) (end : ℕ) (r : Named) (last : List ℕ) : Type 0 where
  pub ends : r.next.at ≡ end
  pub small : (a : ℕ) → is_in a (names δ) ≡ true → a < 32
  pub fresh : (a : ℕ) → is_in a earlier ≡ true → is_in a (names δ) ≡ false
  pub has : (a : ℕ) → member r.names a ≡ (member named a || is_in a (names δ))
  pub holds : (a m : ℕ) → member m (get_or last a 0) ≡ cond (is_in a (names δ)) (holds_value δ a m) (member m (get_or held a 0))

abbrev pub Adds : List ℕ → ℕ → List ℕ → List ℕ → ℕ → Named → List ℕ → Type 0
Adds p named held earlier at r last = (f end : ℕ) (δ : List Attribute) → attributes f Page p earlier at ≡ whole δ end → attribute_here p end ≡ Done
    → Added earlier named held δ end r last

-- What is added to nothing is all there is.
pub adds_all : (p held : List ℕ) (at : ℕ) (r : Named) (last : List ℕ) → Adds p 0 held [] at r last → Names p at r last
adds_all p held at r last A f end δ e done =
    let a = A f end δ e done in (
      a.ends,
      record {
        has = λ n. a.has n ∙ rw (member_zero n);
        holds = λ n m i.
            let q : n % 32 ≡ n = omega (arith, a.small n i) in
            rw q (a.holds n m ∙ rw i);
      },
    )

-- A name that is not among the attributes' holds no string.
no_value : (δ : List Attribute) (a m : ℕ) → is_in a (names δ) ≡ false → holds_value δ a m ≡ false
unfolding is_in holds_value
no_value [] a m n = refl
no_value (x ∷ δ) a m n = by_test (eqb a x.name)
    (λ e. absurd (false≢true (sym n ∙ rw e)))
    (λ e.
    let d : eqb x.name a ≡ false = ne_eqb x.name a (λ q. eqb-false a x.name e (sym q)) in
    let o : is_in a (names δ) ≡ false = rw e at n in
    rw d (no_value δ a m o))

swapped : (e n i : Bool) → (e || n || i) ≡ (n || (e || i))
swapped true true i = refl
swapped true false i = refl
swapped false true i = refl
swapped false false i = refl

-- One attribute before the others: a table of its name and its string, and then theirs.
module _ (earlier : List ℕ) (n s named named' : ℕ) (held : List ℕ)
    (with_name : (k : ℕ) → member named' k ≡ (eqb k n || member named k)) (low : n < 32) (room : n < length held) (new : is_in n earlier ≡ false)
    (δ : List Attribute) (end : ℕ) (r : Named) (last : List ℕ) (A : Added (n ∷ earlier) named' (set held n s) δ end r last) where
  n_apart : is_in n (names δ) ≡ false
  n_apart = A.fresh n (unfold is_in in rw (eq-eqb n n refl))

  small_more : (a : ℕ) → (eqb a n || is_in a (names δ)) ≡ true → a < 32
  small_more a i = by_test (eqb a n) (λ e. omega (arith, eqb-true a n e)) (λ e. A.small a (or_then_right (eqb a n) (is_in a (names δ)) e i))

  fresh_more : (a : ℕ) → is_in a earlier ≡ true → (eqb a n || is_in a (names δ)) ≡ false
  fresh_more a i = by_test (eqb a n)
      (λ e. absurd (false≢true (sym new ∙ subst (λ (k : ℕ). is_in k earlier ≡ true) (eqb-true a n e) i)))
      (λ e. rw e (A.fresh a (unfold is_in in rw (e, i))))

  has_more : (a : ℕ) → member r.names a ≡ (member named a || (eqb a n || is_in a (names δ)))
  has_more a = A.has a ∙ rw (with_name a) (swapped (eqb a n) (member named a) (is_in a (names δ)))

  holds_more : (a m : ℕ) → member m (get_or last a 0)
      ≡ cond (eqb a n || is_in a (names δ)) ((eqb n a && member m s) || holds_value δ a m) (member m (get_or held a 0))
  holds_more a m = by_test (is_in a (names δ))
      (λ i.
      let d : a ≡ n → ⊥ = λ q. false≢true (sym n_apart ∙ subst (λ (k : ℕ). is_in k (names δ) ≡ true) q i) in
      A.holds a m ∙ rw (i, ne_eqb a n d, ne_eqb n a (λ q. d (sym q))))
      (λ i. by_test (eqb a n)
      (λ e.
      let q : a ≡ n = eqb-true a n e in
      A.holds a m ∙ rw (i, q, eq-eqb n n refl, get_or-set_same held n s 0 room, no_value δ n m n_apart) (sym (or-false (member m s))))
      (λ e.
      let d : a ≡ n → ⊥ = eqb-false a n e in
      A.holds a m ∙ rw (i, e) (ap (member m) (get_or-set_other held n a s 0 d))))

  one_more : Added earlier named held (record { name = n; value = string s } ∷ δ) end r last
  unfolding is_in holds_value
  one_more = record { ends = A.ends; small = small_more; fresh = fresh_more; has = has_more; holds = holds_more }

-- No page has an attribute gap.
pub no_template : {A : Type 0} → Page ≡ Template → A
no_template e = absurd (let z : ◌≡◌ {A = ℕ} 0 1 = cc in omega arith)

module _ (p : List ℕ) (named : ℕ) (held earlier : List ℕ) (at : ℕ) (h : AttributeHere) (is : h ≡ attribute_here p at) where
  -- Where no attribute stands.
  pub none_added : h ≡ Done → (place : Position) → place.at ≡ at → Adds p named held earlier at (record { names = named; next = place }) held
  none_added e place here f end δ reads done =
      let n = none_first f Page p earlier at δ end reads done h is e in
      rw n.no_more (record {
        ends = here ∙ n.here;
        small = λ a i. unfold is_in in absurd (false≢true i);
        fresh = λ a i. unfold is_in in refl;
        has = λ a. unfold is_in in sym (or-false (member named a));
        holds = λ a m. unfold is_in in refl;
      })

  module _ (r : Named) (last : List ℕ) where
    pub fixed_added : (n s named' : ℕ) (next : Position) → h ≡ Fixed n s next → ((k : ℕ) → member named' k ≡ (eqb k n || member named k)) → length held ≡ 32
        → Adds p named' (set held n s) (n ∷ earlier) next.at r last → Adds p named held earlier at r last
    fixed_added n s named' next e with_name room A f end δ reads done =
        let F = (fixed_first f Page p earlier at δ end reads done h is n s next e).0 in
        let low : n ≤ 31 = F.small in
        rw F.is_more (one_more earlier n s named named' held with_name (omega arith) (omega arith) F.fresh F.rest end r last
        (A F.fuel end F.rest F.reads_rest done))

    pub open_added : (n g : ℕ) (next : Position) → h ≡ Open n g next → Adds p named held earlier at r last
    open_added n g next e f end δ reads done = no_template (open_first f Page p earlier at δ end reads done h is n g next e).2

-- Where reading has come: what the attributes from here on add to these tables is what all of them add to empty ones.
pub record Going (p held₀ : List ℕ) (at₀ : ℕ) (held : List ℕ) (at named : ℕ) : Type 0 where
  pub forward : at₀ ≤ at
  pub room : length held ≡ 32
  pub earlier : List ℕ
  pub goes : (r : Named) (last : List ℕ) → Adds p named held earlier at r last → Adds p 0 held₀ [] at₀ r last
