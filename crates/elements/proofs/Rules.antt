-- Clause by clause and rule by rule.
use Prim.Native.Nat.{ℕ, zero, suc, ◌+◌, ◌-◌, ◌^◌, ◌≤◌, ◌<◌}
use mathlib.Core.Path.{◌≡◌, refl, sym, ap, subst, ◌∙◌}
use mathlib.Core.List.Memᴰ
use mathlib.Core.List.{List}
use mathlib.Core.Bool.{Bool, true, false, ◌&&◌, false≢true}
use mathlib.Core.Option.{Option, some, none}
use native.Mathlib.Numerals.{add-one}
use native.Mathlib.Omega.{arith}
use lib.ListN.{length, get_or}
use lib.Dec.{eqb, ltb}
use borrow.Author.Tests.{eqb-true, eqb-false, ltb-true, ltb-false, lt-ltb, le-ltb}
use Rattle.std.specs.Prelude.{None, Result, Ok, Err}
use Rattle.sets.specs.Sets.{member}
use Rattle.sets.proofs.Laws.{member_zero, member_high}
use Rattle.verdicts.specs.declared.Breach.{Breach}
use Rattle.verdicts.specs.declared.Breach.TheVariants as Breaches
use Rattle.commands.specs.declared.Position.{Position}
use Rattle.commands.specs.declared.ReadError.{ReadError}
use Rattle.commands.specs.Commands.{byte}
use Rattle.commands.specs.Reading.{whole}
use Rattle.vocabularies.specs.declared.Facts.{Facts}
use Rattle.vocabularies.specs.declared.Rule as Tabled
use Rattle.vocabularies.specs.Vocabulary.{Formula, Rule, Vocabulary, rule_of, is_some}
use Rattle.vocabularies.specs.Inner.Promises.{no_rule}
use Rattle.vocabularies.specs.VocabularyReading as Reading
use Rattle.vocabularies.specs.Facts.{facts_of}
use Rattle.vocabularies.specs.Inner.Promises.{FormulaReads, FactsRead}
use Rattle.vocabularies.proofs.Laws.{Clausal, no_more, one_more, clauses_formed, formula_whole, rule_found}
use Rattle.pages.specs.Items.{Attribute, Items}
use Rattle.pages.specs.RightPages.{◌∈◌}
use Rattle.pages.proofs.Whole.{never_unfinished}
use Rattle.programs.specs.Program.{template_at}
use Rattle.judging.specs.Inner.Judgement.{broken_if, or_first, first_failing}
use Rattle.summaries.specs.Summaries.{Summary}
use Rattle.patterns.specs.Inner.Rounds.{Sets}
use Rattle.patterns.specs.Inner.Exactness.{Exact}
use Rattle.patterns.specs.Inner.Elements.{clause_fails, first_clause}
use Rattle.patterns.specs.Inner.LowestWrong.{MaybeWrong, lower_wrong, Test, LowestWrong, Passing}
use Rattle.sets.proofs.Booleans.{and_both, and_left}
use Rattle.patterns.proofs.Bits.{facts_distinct}
use Rattle.patterns.proofs.LowestOf.{lower_assoc, lower_nowhere, lowest_iff, lowest_none, lowest_either, lowest_same, lowest_never}
use Rattle.schemes.specs.declared.Scheme as Schemes
use Rattle.schemes.specs.Inner.Promises.{KeepsFacts}
use Rattle.occurrences.specs.Inner.Occurrences.{Stands, Occurrences}
use Rattle.occurrences.proofs.Elements.{all_met}
use Rattle.reach.specs.Inner.PlainlyWrong.{clause_by, wrong_by_clause}
use Rattle.elements.specs.Inner.Attributes.{patterns_by}
use Rattle.elements.specs.Inner.Search.{told_if, fails_at}
use Rattle.elements.specs.Inner.Rules.{Standing, SearchesClause, SearchesRule, RulesStand, ExactClauses, SearchesRules}

told_none : (t : Bool) → told_if t none ≡ none
told_none true = refl
told_none false = refl

told_true : (t : Bool) (o : Option Breach) (b : Breach) → told_if t o ≡ some b → t ≡ true
told_true true o b e = refl
told_true false o b e = absurd (let z : ◌≡◌ {A = ℕ} 0 1 = cc in omega arith)

first_none : (o : Option Breach) → or_first o none ≡ o
first_none none = refl
first_none (some b) = refl

-- ---- the clauses of one rule

whole_same : (p : Position) (n : ℕ) → ◌≡◌ {A = Result Position ReadError} (Ok p) (Ok (record { at = n })) → p ≡ record { at = n }
whole_same p n e = cc

module _ (s : List ℕ) (e : ℕ) (words starts : List ℕ) (count chosen : ℕ) where
  -- No template is chosen.
  pub rule_nowhere : (at k : ℕ) → chosen ≡ 0 → SearchesRule s e at k words starts count chosen None
  rule_nowhere at k z φs G X S f end ψs reads exact = lowest_none (λ n m b (l, c, h). false≢true (sym (member_zero n) ∙ sym (ap (λ (w : ℕ). member w n) z) ∙ c))

  module _ (at k : ℕ) where
    -- No clause is left.
    pub rule_ends : (byte s at ≡ 0x04 → ⊥) → SearchesRule s e at k words starts count chosen None
    unfolding Reading.clauses first_failing
    rule_ends n φs G X S zero end ψs reads exact = never_unfinished reads
    rule_ends n φs G X S (suc f) end ψs reads exact = go (clauses_formed f s at ψs end reads)
      where
        go : Clausal f s at ψs end → LowestWrong (Passing φs chosen (λ n e' mark δ φ. told_if (eqb e' e) (first_clause φs G X k ψs n δ φ))) None
        go (no_more here q z) = rw q (lowest_never φs chosen (λ n e' mark δ φ. told_if (eqb e' e) none) (λ n e' mark δ φ. told_none (eqb e' e)))
        go (one_more here ψ next rest r l t q) = absurd (n here)

    either_clause : (t : Bool) (p q : Option Breach) → or_first (told_if t p) (told_if t q) ≡ told_if t (or_first p q)
    either_clause true p q = refl
    either_clause false p q = refl

    -- A clause, whose formula was read, and then the others.
    module _ (formula : Position) (over : formula.at ≡ at + 1) (read : Result Position ReadError) (reads_formula : FormulaReads s 0 formula.at read) where
      -- A formula that is not whole stands in no rule that was read.
      pub rule_unread : (refused : ReadError) → read ≡ Err refused → byte s at ≡ 0x04 → SearchesRule s e at k words starts count chosen None
      unfolding Reading.clauses
      rule_unread refused broken code φs G X S zero end ψs reads exact = never_unfinished reads
      rule_unread refused broken code φs G X S (suc f) end ψs reads exact = go (clauses_formed f s at ψs end reads)
        where
          go : Clausal f s at ψs end → LowestWrong (Passing φs chosen (λ n e' mark δ φ. told_if (eqb e' e) (first_clause φs G X k ψs n δ φ))) None
          go (no_more here q z) = absurd (here code)
          go (one_more here ψ next rest reads_ψ few reads_rest q) =
              let w = formula_whole s 0 formula.at read reads_formula f ψ next (rw over reads_ψ) in
              let z : ◌≡◌ {A = ℕ} 0 1 = cc in absurd (omega arith)

      module _ (after : Position) (ended : read ≡ Ok after) (facts : Facts) (gathered : FactsRead s formula.at after.at facts) (r : Schemes.Scheme) (keeps : KeepsFacts facts r) where
        pub rule_goes : byte s at ≡ 0x04 → (found : MaybeWrong)
            → SearchesClause s (record { element = e; place = k; formula = formula; facts = facts; scheme = r }) words starts count chosen found
            → (later : MaybeWrong) → SearchesRule s e after.at (k + 1) words starts count chosen later
            → SearchesRule s e at k words starts count chosen (lower_wrong found later)
        unfolding Reading.clauses first_failing
        rule_goes code found here later others φs G X S zero end ψs reads exact = never_unfinished reads
        rule_goes code found here later others φs G X S (suc f) end ψs reads exact = go (clauses_formed f s at ψs end reads) exact
          where
            go : Clausal f s at ψs end → ((ψ : Formula) → ψ ∈ ψs → Exact φs G (patterns_by ψ) (X ψ))
                → LowestWrong (Passing φs chosen (λ n e' mark δ φ. told_if (eqb e' e) (first_clause φs G X k ψs n δ φ))) (lower_wrong found later)
            go (no_more n q z) each = absurd (n code)
            go (one_more start ψ next rest reads_ψ few reads_rest q) each =
                let each' = subst (λ (l : List Formula). (χ : Formula) → χ ∈ l → Exact φs G (patterns_by χ) (X χ)) q each in
                let stands : Reading.formula f s 0 formula.at ≡ whole ψ next = rw over reads_ψ in
                let is : after ≡ record { at = next } = whole_same after next (sym ended ∙ formula_whole s 0 formula.at read reads_formula f ψ next stands) in
                let same : after.at ≡ next = rw is in
                let kept = gathered f 0 ψ (subst (λ (j : ℕ). Reading.formula f s 0 formula.at ≡ whole ψ j) (sym same) stands) in
                let first = here φs G ψ (X ψ) S (record {
                  represents = kept;
                  reads = keeps (facts_of ψ) kept few (facts_distinct ψ);
                  fuel = f;
                  depth = 0;
                  end = next;
                  stands = stands;
                }) (each' ψ (Memᴰ.head refl)) in
                let later_ones = rw (add-one k) at (others φs G X S f end rest (subst (λ (j : ℕ). Reading.clauses f s j ≡ whole rest end) (sym same) reads_rest)
                (λ χ m. each' χ (Memᴰ.tail m))) in
                rw q (lowest_same φs chosen
                (λ n e' mark δ φ. or_first (fails_at φs G ψ (X ψ) k n e e' mark δ φ) (told_if (eqb e' e) (first_clause φs G X (suc k) rest n δ φ)))
                (λ n e' mark δ φ. told_if (eqb e' e) (or_first (broken_if (clause_fails φs G ψ (X ψ) n δ φ) (Breaches.Clause k)) (first_clause φs G X (suc k) rest n δ φ)))
                (λ n e' mark δ φ. either_clause (eqb e' e) (broken_if (clause_fails φs G ψ (X ψ) n δ φ) (Breaches.Clause k)) (first_clause φs G X (suc k) rest n δ φ)) (lower_wrong found later)
                (lowest_either φs chosen (λ n. fails_at φs G ψ (X ψ) k n e) (λ n e' mark δ φ. told_if (eqb e' e) (first_clause φs G X (suc k) rest n δ φ)) found later first later_ones))

  -- Where the search has come: what the clauses from here on find, lowered by what was found, is what all of them find.
  pub record Ruling (from at place : ℕ) (lowest : MaybeWrong) : Type 0 where
    pub few : place ≤ at
    pub goes : (r : MaybeWrong) → SearchesRule s e at place words starts count chosen r → SearchesRule s e from 0 words starts count chosen (lower_wrong lowest r)

  pub ruling_more : (from at place after : ℕ) (lowest found lower : MaybeWrong) → lower ≡ lower_wrong lowest found → at < after → Ruling from at place lowest
      → ((r : MaybeWrong) → SearchesRule s e after (place + 1) words starts count chosen r → SearchesRule s e at place words starts count chosen (lower_wrong found r))
      → Ruling from after (place + 1) lower
  ruling_more from at place after lowest found lower is onward R more = rw is (record {
    few = omega (arith, R.few);
    goes = λ r later. subst (SearchesRule s e from 0 words starts count chosen) (sym (lower_assoc lowest found r)) (R.goes (lower_wrong found r) (more r later));
  })

  pub ruling_ends : (from at place : ℕ) (lowest : MaybeWrong) → Ruling from at place lowest → SearchesRule s e at place words starts count chosen None
      → SearchesRule s e from 0 words starts count chosen lowest
  ruling_ends from at place lowest R ends = subst (SearchesRule s e from 0 words starts count chosen) (lower_nowhere lowest) (R.goes None ends)

-- ---- all rules

none_there : (o : Option Rule) → is_some o ≡ false → o ≡ none
none_there none h = refl
none_there (some R) h = absurd (false≢true (sym h))

-- A test of elements of one name is passed in templates in which it stands.
module _ (φs : List Items) (reached standing chosen : ℕ) (table : List ℕ) (e : ℕ) (is : standing ≡ get_or table e 0)
    (common : (k : ℕ) → member chosen k ≡ (member reached k && member standing k)) (H : Occurrences φs table)
    (test : ℕ → Test) where
  pub chosen_wider : (w : MaybeWrong) → LowestWrong (Passing φs chosen (λ n e' mark δ φ. told_if (eqb e' e) (test n e' mark δ φ))) w
      → LowestWrong (Passing φs reached (λ n e' mark δ φ. told_if (eqb e' e) (test n e' mark δ φ))) w
  chosen_wider w = lowest_iff (λ n at b. (to n at b, back n at b))
    where
      to : (n at : ℕ) (b : Breach) → Passing φs chosen (λ n e' mark δ φ. told_if (eqb e' e) (test n e' mark δ φ)) n at b
          → Passing φs reached (λ n e' mark δ φ. told_if (eqb e' e) (test n e' mark δ φ)) n at b
      to n at b (l, c, h) = (l, and_left (member reached n) (member standing n) (sym (common n) ∙ c), h)

      back : (n at : ℕ) (b : Breach) → Passing φs reached (λ n e' mark δ φ. told_if (eqb e' e) (test n e' mark δ φ)) n at b
          → Passing φs chosen (λ n e' mark δ φ. told_if (eqb e' e) (test n e' mark δ φ)) n at b
      back n at b (l, c, h) =
          let stands : member (get_or table e 0) n ≡ true = all_met (λ e' mark δ φ. Stands table n e') (λ e' mark δ φ. (mark ≡ at) × (told_if (eqb e' e) (test n e' mark δ φ) ≡ some b))
          (member (get_or table e 0) n ≡ true)
          (λ e' mark δ φ T q. subst (λ (k : ℕ). member (get_or table k 0) n ≡ true) (eqb-true e' e (told_true (eqb e' e) (test n e' mark δ φ) b q.1)) T.stands)
          (template_at φs n) (H n l) h in
          (l, common n ∙ and_both _ _ c (ap (λ (k : ℕ). member k n) is ∙ stands), h)

module _ (s : List ℕ) (declared : ℕ) (rules : List Tabled.Rule) (standing words starts : List ℕ) (count reached : ℕ) where
  -- The rules of the elements below a number.
  abbrev pub Ruled : ℕ → MaybeWrong → Type 0
  Ruled e lowest = (φs : List Items) (G : Summary) (D : Vocabulary) (X : Formula → Sets) → Standing s φs G words starts count
      → RulesStand s D declared rules → Occurrences φs standing → ExactClauses φs G D X
      → LowestWrong (Passing φs reached (λ n e' mark δ φ. told_if (ltb e' e) (wrong_by_clause φs G X D n e' δ φ))) lowest

  module _ (φs : List Items) (G : Summary) (D : Vocabulary) (X : Formula → Sets) (R : RulesStand s D declared rules) where
    undeclared : (e n : ℕ) (δ : List Attribute) (φ : Items) → member declared e ≡ false → wrong_by_clause φs G X D n e δ φ ≡ none
    undeclared e n δ φ absent = ap (λ (o : Option Rule). clause_by φs G X o n δ φ) (none_there (rule_of D.rules e) (sym (R.declares e) ∙ absent))

    module _ (e n e' : ℕ) (δ : List Attribute) (φ : Items) where
      abbrev w : Option Breach
      w = wrong_by_clause φs G X D n e' δ φ

      -- One element more, which has no rule.
      pub rule_none : member declared e ≡ false → told_if (ltb e' e) w ≡ told_if (ltb e' (e + 1)) w
      rule_none absent = go (eqb e' e) refl (ltb e' e) refl
        where
          go : (a : Bool) → eqb e' e ≡ a → (b : Bool) → ltb e' e ≡ b → told_if b w ≡ told_if (ltb e' (e + 1)) w
          go true p b q =
              let same = eqb-true e' e p in
              let none_told : w ≡ none = undeclared e' n δ φ (ap (member declared) same ∙ absent) in
              rw none_told (told_none b ∙ sym (told_none (ltb e' (e + 1))))
          go false p true q = let l = ltb-true e' e q in rw (lt-ltb e' (e + 1) (omega arith)) refl
          go false p false q =
              let ne = eqb-false e' e p in
              let l = ltb-false e' e q in
              rw (le-ltb e' (e + 1) (omega arith)) refl

      -- One rule more.
      pub rule_more : (r : Rule) → rule_of D.rules e ≡ some r
          → or_first (told_if (ltb e' e) w) (told_if (eqb e' e) (first_clause φs G X 0 r.clauses n δ φ)) ≡ told_if (ltb e' (e + 1)) w
      rule_more r rule = go (eqb e' e) refl (ltb e' e) refl
        where
          go : (a : Bool) → eqb e' e ≡ a → (b : Bool) → ltb e' e ≡ b
              → or_first (told_if b w) (told_if a (first_clause φs G X 0 r.clauses n δ φ)) ≡ told_if (ltb e' (e + 1)) w
          go true p true q = let same = eqb-true e' e p in let l = ltb-true e' e q in absurd (omega arith)
          go true p false q = let same = eqb-true e' e p in rw (lt-ltb e' (e + 1) (omega arith), same, rule)
          go false p true q = let l = ltb-true e' e q in rw (lt-ltb e' (e + 1) (omega arith)) (first_none w)
          go false p false q =
              let ne = eqb-false e' e p in
              let l = ltb-false e' e q in
              rw (le-ltb e' (e + 1) (omega arith)) refl

  pub ruled_none : Ruled 0 None
  ruled_none φs G D X S R H exact = lowest_never φs reached (λ n e' mark δ φ. told_if (ltb e' 0) (wrong_by_clause φs G X D n e' δ φ))
      (λ n e' mark δ φ. rw (le-ltb e' 0 (omega arith)) refl)

  pub ruled_past : (e : ℕ) (lowest : MaybeWrong) → Ruled e lowest → member declared e ≡ false → Ruled (e + 1) lowest
  ruled_past e lowest before absent φs G D X S R H exact = lowest_same φs reached
      (λ n e' mark δ φ. told_if (ltb e' e) (wrong_by_clause φs G X D n e' δ φ)) (λ n e' mark δ φ. told_if (ltb e' (e + 1)) (wrong_by_clause φs G X D n e' δ φ))
      (λ n e' mark δ φ. rule_none φs G D X R e n e' δ φ absent) lowest (before φs G D X S R H exact)

  pub ruled_more : (e : ℕ) (lowest : MaybeWrong) → Ruled e lowest → member declared e ≡ true
      → (chosen : ℕ) → ((k : ℕ) → member chosen k ≡ (member reached k && member (get_or standing e 0) k))
      → (found : MaybeWrong) → SearchesRule s e (get_or rules e no_rule).clauses.at 0 words starts count chosen found
      → (lower : MaybeWrong) → lower ≡ lower_wrong lowest found → Ruled (e + 1) lower
  ruled_more e lowest before is_declared chosen common found searched lower is_lower φs G D X S R H exact =
      let (r, rule) = rule_found (rule_of D.rules e) (sym (R.declares e) ∙ is_declared) in
      let from = (get_or rules e no_rule).clauses.at in
      let (end, reads) = R.stands e r rule ((length s - from) + (length s - from) + 2) (omega arith) in
      let here = searched φs G X S ((length s - from) + (length s - from) + 2) end r.clauses reads (λ ψ m. exact e r ψ rule m) in
      rw is_lower (lowest_same φs reached
      (λ n e' mark δ φ. or_first (told_if (ltb e' e) (wrong_by_clause φs G X D n e' δ φ)) (told_if (eqb e' e) (first_clause φs G X 0 r.clauses n δ φ)))
      (λ n e' mark δ φ. told_if (ltb e' (e + 1)) (wrong_by_clause φs G X D n e' δ φ))
      (λ n e' mark δ φ. rule_more φs G D X R e n e' δ φ r rule) (lower_wrong lowest found)
      (lowest_either φs reached (λ n e' mark δ φ. told_if (ltb e' e) (wrong_by_clause φs G X D n e' δ φ))
      (λ n e' mark δ φ. told_if (eqb e' e) (first_clause φs G X 0 r.clauses n δ φ)) lowest found (before φs G D X S R H exact)
      (chosen_wider φs reached (get_or standing e 0) chosen standing e refl common H (λ n e' mark δ φ. first_clause φs G X 0 r.clauses n δ φ) found here)))

  pub ruled_all : (e : ℕ) (lowest : MaybeWrong) → Ruled e lowest → 64 ≤ e → declared < 2 ^ 64
      → SearchesRules s declared rules standing words starts count reached lowest
  ruled_all e lowest all l narrow φs G D X S R H exact = lowest_same φs reached
      (λ n e' mark δ φ. told_if (ltb e' e) (wrong_by_clause φs G X D n e' δ φ)) (λ n e' mark δ φ. wrong_by_clause φs G X D n e' δ φ)
      (λ n e' mark δ φ. go n e' δ φ (ltb e' e) refl) lowest (all φs G D X S R H exact)
    where
      go : (n e' : ℕ) (δ : List Attribute) (φ : Items) (b : Bool) → ltb e' e ≡ b
          → told_if b (wrong_by_clause φs G X D n e' δ φ) ≡ wrong_by_clause φs G X D n e' δ φ
      go n e' δ φ true q = refl
      go n e' δ φ false q =
          let le = ltb-false e' e q in
          sym (undeclared φs G D X R e' n δ φ (member_high 64 declared e' narrow (omega arith)))
