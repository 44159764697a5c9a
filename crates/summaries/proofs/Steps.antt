-- The items under a head, one step after the other.
use Prim.Native.Nat.{ℕ, zero, suc, ◌+◌, ◌-◌, ◌%◌, ◌≤◌, ◌<◌}
use mathlib.Core.Path.{◌≡◌, refl, sym, ap, subst, ◌∙◌}
use mathlib.Core.List.{List, [], ◌∷◌}
use mathlib.Core.Bool.{Bool, true, false, ◌||◌, false≢true}
use mathlib.Core.Logic.{◌⊎◌, inl, inr}
use native.Mathlib.Omega.{arith}
use Rattle.std.specs.Prelude.{Option, Some, None}
use lib.Dec.{eqb, leb}
use borrow.Author.Tests.{ne_eqb, eqb-true, leb-true}
use Rattle.sets.proofs.Booleans.{and_left, and_right}
use Rattle.commands.specs.declared.Context.{Context}
use Rattle.commands.specs.declared.Context.TheVariants.{TemplateHoldings, StringHoldings}
use Rattle.commands.specs.declared.Position.{Position}
use Rattle.commands.specs.Commands.{byte, allowed, operand_bytes, operands_of}
use Rattle.summaries.specs.Proposal.{Holding, one_string, any_string}
use Rattle.summaries.specs.ProposalReading.{holding_of}
use Rattle.summaries.specs.declared.Claim as Declared
use Rattle.summaries.specs.declared.Claim.TheVariants.{Root, Edge, String, AnyString, GapFrom, AttributeGapFrom}
use Rattle.summaries.specs.declared.StringClaim.{StringClaim}
use Rattle.summaries.specs.declared.StringClaim.TheVariants.{One, Any}
use Rattle.summaries.specs.Inner.Listed.{HoldingFits, ItemAt, over, Listed, meaning_of, claim_of, claim_here, string_here, on_from}

-- The parts of a pair that is there.
some_is : {A : Type 0} (x y : A) → Some x ≡ Some y → x ≡ y
some_is x y e = cc

module _ {A B : Type 0} {a a' : A} {b b' : B} (e : ◌≡◌ {A = Option (A × B)} (Some (a, b)) (Some (a', b'))) where
  pub first_is : a ≡ a'
  first_is = ap (λ (x : A × B). x.0) (some_is (a, b) (a', b') e)

  pub second_is : b ≡ b'
  second_is = ap (λ (x : A × B). x.1) (some_is (a, b) (a', b') e)

-- The commands of the items of a template variable.
by_claim : (P : ℕ → Type 0) (c : ℕ) → allowed TemplateHoldings c ≡ true → P 0x41 → P 0x42 → P 0x43 → P 0x44 → P 0x45 → P 0x46 → P c
unfolding allowed
by_claim P c a p₁ p₂ p₃ p₄ p₅ p₆ =
    let l : 0x41 ≤ c = leb-true _ _ (and_left _ _ a) in
    let h : c ≤ 0x46 = leb-true _ _ (and_right (leb 0x41 c) _ a) in
    let q : 0x41 + (c - 0x41) ≡ c = omega arith in
    subst P q (go (c - 0x41) (omega arith))
  where
    go : (d : ℕ) → d ≤ 5 → P (0x41 + d)
    go zero m = p₁
    go (suc zero) m = p₂
    go (suc (suc zero)) m = p₃
    go (suc (suc (suc zero))) m = p₄
    go (suc (suc (suc (suc zero)))) m = p₅
    go (suc (suc (suc (suc (suc zero))))) m = p₆
    go (suc (suc (suc (suc (suc (suc d)))))) m = absurd (omega arith)

-- What the step over an item tells.
record Told (code : ℕ) (o : ℕ → ℕ) (at : ℕ) : Type 0 where
  item : Declared.Claim
  next : Position
  is : claim_of code o (on_from at) ≡ Some (item, next)
  after : next.at ≡ at + 1 + operand_bytes code
  means : HoldingFits (holding_of code o) → meaning_of item ≡ holding_of code o

told : (code : ℕ) (o : ℕ → ℕ) (at : ℕ) → allowed TemplateHoldings code ≡ true → Told code o at
unfolding operand_bytes operands_of
told code o at a = by_claim (λ k. Told k o at) code a
    (record { item = Root (o 1 % 32); next = on_from at 2; is = refl; after = omega arith; means = λ f. let q : o 1 % 32 ≡ o 1 = omega arith in rw q })
    (record {
      item = Edge (o 1 % 32) (o 2 % 8) (o 3 % 32);
      next = on_from at 4;
      is = refl;
      after = omega arith;
      means = λ f.
          let q : o 1 % 32 ≡ o 1 = omega arith in
          let r : o 2 % 8 ≡ o 2 = omega arith in
          let t : o 3 % 32 ≡ o 3 = omega arith in
          rw (q, r, t);
    })
    (record {
      item = String (o 1 % 32) (o 2 % 8) (o 3 % 64);
      next = on_from at 4;
      is = refl;
      after = omega arith;
      means = λ f.
          let q : o 1 % 32 ≡ o 1 = omega arith in
          let r : o 2 % 8 ≡ o 2 = omega arith in
          let t : o 3 % 64 ≡ o 3 = omega arith in
          rw (q, r, t);
    })
    (record {
      item = AnyString (o 1 % 32) (o 2 % 8);
      next = on_from at 3;
      is = refl;
      after = omega arith;
      means = λ f.
          let q : o 1 % 32 ≡ o 1 = omega arith in
          let r : o 2 % 8 ≡ o 2 = omega arith in
          rw (q, r);
    })
    (record {
      item = GapFrom (o 1 % 8) (o 2 % 32);
      next = on_from at 3;
      is = refl;
      after = omega arith;
      means = λ f.
          let q : o 1 % 8 ≡ o 1 = omega arith in
          let r : o 2 % 32 ≡ o 2 = omega arith in
          rw (q, r);
    })
    (record {
      item = AttributeGapFrom (o 1 % 8) (o 2 % 32);
      next = on_from at 3;
      is = refl;
      after = omega arith;
      means = λ f.
          let q : o 1 % 8 ≡ o 1 = omega arith in
          let r : o 2 % 32 ≡ o 2 = omega arith in
          rw (q, r);
    })

no_claim : (code : ℕ) (o : ℕ → ℕ) (onto : ℕ → Position) → allowed TemplateHoldings code ≡ false → claim_of code o onto ≡ None
unfolding allowed
no_claim code o onto a =
    rw (ne_eqb code 0x41 (other 0x41 refl), ne_eqb code 0x42 (other 0x42 refl), ne_eqb code 0x43 (other 0x43 refl), ne_eqb code 0x44 (other 0x44 refl), ne_eqb code 0x45 (other 0x45 refl), ne_eqb code 0x46 (other 0x46 refl))
  where
    other : (k : ℕ) → allowed TemplateHoldings k ≡ true → code ≡ k → ⊥
    other k is e = false≢true (sym a ∙ (ap (allowed TemplateHoldings) e ∙ is))

module _ (s : List ℕ) (at : ℕ) where
  abbrev o : ℕ → ℕ
  o i = byte s (at + i)

  -- The item that the code takes off is the first of those that stand here.
  pub record First (x : Context) (y : Holding) (next : Position) (ys : List Holding) : Type 0 where
    pub rest : List Holding
    pub is_more : ys ≡ y ∷ rest
    pub stand : Listed x s next.at rest

  pub claims_first : (ys : List Holding) → Listed TemplateHoldings s at ys → (r : Option (Declared.Claim × Position)) → r ≡ claim_here s at → (c : Declared.Claim) (next : Position) → r ≡ Some (c, next)
      → First TemplateHoldings (meaning_of c) next ys
  unfolding Listed
  claims_first [] l r is c next e =
      let q : ◌≡◌ {A = Option (Declared.Claim × Position)} (Some (c, next)) None = sym e ∙ (is ∙ no_claim (byte s at) o (on_from at) l) in
      absurd (let z : ◌≡◌ {A = ℕ} 0 1 = cc in omega arith)
  claims_first (y ∷ ys) l r is c next e =
      let t = told (byte s at) o at l.0.permitted in
      let q : ◌≡◌ {A = Option (Declared.Claim × Position)} (Some (c, next)) (Some (t.item, t.next)) = sym e ∙ (is ∙ t.is) in
      let same : c ≡ t.item = first_is q in
      let same_next : next ≡ t.next = second_is q in
      let means : meaning_of t.item ≡ y = t.means (rw (← l.0.is) l.0.fits) ∙ sym l.0.is in
      record { rest = ys; is_more = rw (same, means); stand = rw (same_next, t.after) l.1 }

  pub claims_end : (ys : List Holding) → Listed TemplateHoldings s at ys → (r : Option (Declared.Claim × Position)) → r ≡ claim_here s at → r ≡ None → ys ≡ []
  unfolding Listed
  claims_end [] l r is e = refl
  claims_end (y ∷ ys) l r is e =
      let t = told (byte s at) o at l.0.permitted in
      let q : ◌≡◌ {A = Option (Declared.Claim × Position)} None (Some (t.item, t.next)) = sym e ∙ (is ∙ t.is) in
      absurd (let z : ◌≡◌ {A = ℕ} 0 1 = cc in omega arith)

  -- The same under the head of a string variable.
  one_is : byte s at ≡ 0x47 → string_here s at ≡ Some (One (o 1 % 64), on_from at 2)
  one_is e = rw e

  any_is : byte s at ≡ 0x48 → string_here s at ≡ Some (Any, on_from at 1)
  any_is e = rw e

  none_is : allowed StringHoldings (byte s at) ≡ false → string_here s at ≡ None
  unfolding allowed
  none_is a = rw (ne_eqb (byte s at) 0x47 (other 0x47 refl), ne_eqb (byte s at) 0x48 (other 0x48 refl))
    where
      other : (k : ℕ) → allowed StringHoldings k ≡ true → byte s at ≡ k → ⊥
      other k is e = false≢true (sym a ∙ (ap (allowed StringHoldings) e ∙ is))

  either_of : allowed StringHoldings (byte s at) ≡ true → (byte s at ≡ 0x47) ⊎ (byte s at ≡ 0x48)
  unfolding allowed
  either_of a = go (eqb (byte s at) 0x47) refl (eqb (byte s at) 0x48) refl a
    where
      go : (t : Bool) → eqb (byte s at) 0x47 ≡ t → (u : Bool) → eqb (byte s at) 0x48 ≡ u → (t || u) ≡ true → (byte s at ≡ 0x47) ⊎ (byte s at ≡ 0x48)
      go true e u f h = inl (eqb-true _ _ e)
      go false e true f h = inr (eqb-true _ _ f)
      go false e false f h = absurd (false≢true h)

  module _ (ys : List Holding) (l : Listed StringHoldings s at ys) (r : Option (StringClaim × Position)) (is : r ≡ string_here s at) where
    strings_as : (y : Holding) (next : Position) → ((z : Holding) → ItemAt StringHoldings s at z → (z ≡ y) × (next.at ≡ over s at)) → (allowed StringHoldings (byte s at) ≡ false → ⊥)
        → First StringHoldings y next ys
    unfolding Listed
    strings_as y next h n = go ys l
      where
        go : (zs : List Holding) → Listed StringHoldings s at zs → First StringHoldings y next zs
        go [] m = absurd (n m)
        go (z ∷ zs) m =
            let w = h z m.0 in
            record { rest = zs; is_more = rw w.0; stand = rw w.1 m.1 }

    pub strings_one : (t : ℕ) (next : Position) → r ≡ Some (One t, next) → First StringHoldings (one_string t) next ys
    unfolding operand_bytes operands_of
    strings_one t next e = strings_as (one_string t) next told_one (λ n. let q : ◌≡◌ {A = Option (StringClaim × Position)} (Some (One t, next)) None = sym e ∙ (is ∙ none_is n) in let z : ◌≡◌ {A = ℕ} 0 1 = cc in omega arith)
      where
        told_one : (z : Holding) → ItemAt StringHoldings s at z → (z ≡ one_string t) × (next.at ≡ over s at)
        told_one z i = elim (either_of i.permitted) [
          | inl b ↦
              let q : ◌≡◌ {A = Option (StringClaim × Position)} (Some (One t, next)) (Some (One (o 1 % 64), on_from at 2)) = sym e ∙ (is ∙ one_is b) in
              let y_is : One t ≡ One (o 1 % 64) = first_is q in
              let t_is : t ≡ o 1 % 64 = cc in
              let next_is : next ≡ on_from at 2 = second_is q in
              let z_is : z ≡ one_string (o 1) = i.is ∙ rw b in
              let f : o 1 < 64 = rw z_is at i.fits in
              let m : o 1 % 64 ≡ o 1 = omega arith in
              (rw (z_is, t_is, m), rw (next_is, b) (omega arith))
          | inr b ↦ let q : ◌≡◌ {A = Option (StringClaim × Position)} (Some (One t, next)) (Some (Any, on_from at 1)) = sym e ∙ (is ∙ any_is b) in absurd (let y_is : One t ≡ Any = first_is q in let z : ◌≡◌ {A = ℕ} 0 1 = cc in omega arith)
        ]

    pub strings_any : (next : Position) → r ≡ Some (Any, next) → First StringHoldings any_string next ys
    unfolding operand_bytes operands_of
    strings_any next e = strings_as any_string next told_any (λ n. let q : ◌≡◌ {A = Option (StringClaim × Position)} (Some (Any, next)) None = sym e ∙ (is ∙ none_is n) in let z : ◌≡◌ {A = ℕ} 0 1 = cc in omega arith)
      where
        told_any : (z : Holding) → ItemAt StringHoldings s at z → (z ≡ any_string) × (next.at ≡ over s at)
        told_any z i = elim (either_of i.permitted) [
          | inl b ↦ let q : ◌≡◌ {A = Option (StringClaim × Position)} (Some (Any, next)) (Some (One (o 1 % 64), on_from at 2)) = sym e ∙ (is ∙ one_is b) in absurd (let y_is : Any ≡ One (o 1 % 64) = first_is q in let z : ◌≡◌ {A = ℕ} 0 1 = cc in omega arith)
          | inr b ↦
              let q : ◌≡◌ {A = Option (StringClaim × Position)} (Some (Any, next)) (Some (Any, on_from at 1)) = sym e ∙ (is ∙ any_is b) in
              let next_is : next ≡ on_from at 1 = second_is q in
              (i.is ∙ rw b, rw (next_is, b) (omega arith))
        ]

    pub strings_end : r ≡ None → ys ≡ []
    unfolding Listed
    strings_end e = go ys l
      where
        go : (zs : List Holding) → Listed StringHoldings s at zs → zs ≡ []
        go [] m = refl
        go (z ∷ zs) m = elim (either_of m.0.permitted) [
          | inl b ↦ let q : ◌≡◌ {A = Option (StringClaim × Position)} None (Some (One (o 1 % 64), on_from at 2)) = sym e ∙ (is ∙ one_is b) in absurd (let z : ◌≡◌ {A = ℕ} 0 1 = cc in omega arith)
          | inr b ↦ let q : ◌≡◌ {A = Option (StringClaim × Position)} None (Some (Any, on_from at 1)) = sym e ∙ (is ∙ any_is b) in absurd (let z : ◌≡◌ {A = ℕ} 0 1 = cc in omega arith)
        ]
