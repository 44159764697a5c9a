-- Clauses: what each makes of the reading, where they end, and what code that reads them does.
use Prim.Native.Nat.{ℕ, zero, suc, ◌+◌, ◌-◌, ◌≤◌, ◌<◌}
use mathlib.Core.Path.{◌≡◌, refl, sym, ap, ◌∙◌}
use mathlib.Core.List.{List, [], ◌∷◌}
use mathlib.Core.Bool.{Bool, true, false}
use native.Mathlib.Omega.{arith}
use lib.ListN.{length}
use lib.Dec.{leb, ltb, eqb}
use borrow.Author.Tests.{le-leb, lt-leb, eq-eqb, ne_eqb, eqb-true, eqb-false, leb-true, leb-false, ltb-true, ltb-false}
use Rattle.std.specs.Prelude.{Option, Some, None, Result, Ok, Err}
use Rattle.verdicts.specs.declared.Form.TheVariants.{TooManyFacts}
use Rattle.commands.specs.declared.Position.{Position}
use Rattle.commands.specs.declared.ReadError.{ReadError}
use Rattle.commands.specs.Commands.{byte}
use Rattle.commands.specs.Reading.{Read, whole, refused, unfinished, and_then, when}
use Rattle.commands.specs.Inner.Parts.{Agrees, Enough, past}
use Rattle.commands.proofs.Laws.{byte_past, past_over, past_other, and_then_whole}
use Rattle.vocabularies.specs.Vocabulary.{Formula}
use Rattle.vocabularies.specs.Facts.{facts_of}
use Rattle.vocabularies.specs.VocabularyReading.{formula, most_facts, clauses}
use Rattle.vocabularies.specs.Inner.Promises.{FormulaReads, ManyFacts, ClausesRead}
use Rattle.vocabularies.proofs.Parts.{agrees_whole, agrees_refused, last_agrees, last_whole, Finished, last_finishes, and_then_finishes}
use Rattle.vocabularies.proofs.Formulas.{formula_ends, formula_fuel, formula_finishes, formula_moved}

-- What follows a clause's `04`, once its formula is read, and once that is whole.
counted : ℕ → List ℕ → ℕ → Formula → ℕ → Read (List Formula)
counted f s at ψ next = when (leb (length (facts_of ψ)) most_facts) (λ _. and_then (clauses f s next) λ ψs end. whole (ψ ∷ ψs) end) (λ _. refused TooManyFacts at)

-- A byte that is not 0 stands within the bytes.
within : (s : List ℕ) (at : ℕ) → byte s at ≡ 0x04 → at < length s
within s at e = go (leb (length s) at) refl
  where
    go : (b : Bool) → leb (length s) at ≡ b → at < length s
    go true h = absurd (let z : byte s at ≡ 0 = byte_past s at (leb-true (length s) at h) in omega arith)
    go false h = leb-false (length s) at h

-- One step of the definition.
module _ (f : ℕ) (s : List ℕ) (at : ℕ) where
  step_end : (byte s at ≡ 0x04 → ⊥) → clauses (suc f) s at ≡ whole [] at
  unfolding clauses
  step_end n = rw (ne_eqb (byte s at) 0x04 n)

  step : byte s at ≡ 0x04 → clauses (suc f) s at ≡ and_then (formula f s 0 (at + 1)) (counted f s at)
  unfolding clauses counted
  step e = rw (eq-eqb (byte s at) 0x04 e)

  module _ (ψ : Formula) (next : ℕ) where
    few : length (facts_of ψ) ≤ most_facts → counted f s at ψ next ≡ and_then (clauses f s next) (λ ψs end. whole (ψ ∷ ψs) end)
    unfolding counted
    few l = rw (le-leb (length (facts_of ψ)) most_facts l)

    many : most_facts < length (facts_of ψ) → counted f s at ψ next ≡ refused TooManyFacts at
    unfolding counted
    many l = rw (lt-leb (length (facts_of ψ)) most_facts l)

-- How clauses came to be read whole.
pub data Clausal (f : ℕ) (s : List ℕ) (at : ℕ) (ψs : List Formula) (end : ℕ) : Type 0 where
  no_more : (byte s at ≡ 0x04 → ⊥) → ψs ≡ [] → at ≡ end → Clausal f s at ψs end
  one_more : byte s at ≡ 0x04 → (ψ : Formula) (next : ℕ) (rest : List Formula) → formula f s 0 (at + 1) ≡ whole ψ next → length (facts_of ψ) ≤ most_facts
      → clauses f s next ≡ whole rest end → ψs ≡ ψ ∷ rest → Clausal f s at ψs end

pub clauses_formed : (f : ℕ) (s : List ℕ) (at : ℕ) (ψs : List Formula) (end : ℕ) → clauses (suc f) s at ≡ whole ψs end → Clausal f s at ψs end
clauses_formed f s at ψs end e = go (eqb (byte s at) 0x04) refl
  where
    after : byte s at ≡ 0x04 → (ψ : Formula) (next : ℕ) → formula f s 0 (at + 1) ≡ whole ψ next → counted f s at ψ next ≡ whole ψs end
        → (b : Bool) → leb (length (facts_of ψ)) most_facts ≡ b → Clausal f s at ψs end
    after k ψ next r c true h =
        let w = last_whole (clauses f s next) (◌∷◌ ψ) ψs end (sym (few f s at ψ next (leb-true _ _ h)) ∙ c) in
        one_more k ψ next w.0 r (leb-true _ _ h) w.1 w.2
    after k ψ next r c false h = absurd (let z : ◌≡◌ {A = ℕ} 0 1 = cc (many f s at ψ next (leb-false _ _ h)) in omega arith)

    go : (b : Bool) → eqb (byte s at) 0x04 ≡ b → Clausal f s at ψs end
    go true b =
        let w = and_then_whole (formula f s 0 (at + 1)) (counted f s at) ψs end (sym (step f s at (eqb-true _ _ b)) ∙ e) in
        after (eqb-true _ _ b) w.0 w.1 w.2 w.3 (leb (length (facts_of w.0)) most_facts) refl
    go false b =
        let z = step_end f s at (eqb-false _ _ b) in
        no_more (eqb-false _ _ b) (cc) (cc)

-- Clauses do not end before their start.
pub clauses_ends : (f : ℕ) (s : List ℕ) (at : ℕ) (ψs : List Formula) (end : ℕ) → clauses f s at ≡ whole ψs end → at ≤ end
unfolding clauses
clauses_ends zero s at ψs end e = absurd (let z : ◌≡◌ {A = ℕ} 0 1 = cc in omega arith)
clauses_ends (suc f) s at ψs end e = go (λ at' ψs' e'. clauses_ends f s at' ψs' end e') (clauses_formed f s at ψs end e)
  where
    go : ((at : ℕ) (ψs : List Formula) → clauses f s at ≡ whole ψs end → at ≤ end) → Clausal f s at ψs end → at ≤ end
    go ends (no_more n q z) = omega arith
    go ends (one_more k ψ next rest r l c q) = let m = formula_ends f s 0 (at + 1) ψ next r in let o = ends next rest c in omega arith

-- Any two fuels that are enough read the same.
pub clauses_fuel : (f g : ℕ) (s : List ℕ) (at : ℕ) → Enough s at f → Enough s at g → clauses f s at ≡ clauses g s at
clauses_fuel zero g s at h k = absurd (omega arith)
clauses_fuel (suc f) zero s at h k = absurd (omega arith)
clauses_fuel (suc f) (suc g) s at h k = go (λ at' h' k'. clauses_fuel f g s at' h' k') (eqb (byte s at) 0x04) refl
  where
    after : ((at : ℕ) → Enough s at f → Enough s at g → clauses f s at ≡ clauses g s at) → (ψ : Formula) (next : ℕ) → Enough s next f → Enough s next g
        → (b : Bool) → leb (length (facts_of ψ)) most_facts ≡ b → counted f s at ψ next ≡ counted g s at ψ next
    after same ψ next h k true e = rw (few f s at ψ next (leb-true _ _ e), few g s at ψ next (leb-true _ _ e), same next h k)
    after same ψ next h k false e = many f s at ψ next (leb-false _ _ e) ∙ sym (many g s at ψ next (leb-false _ _ e))

    read : ((at : ℕ) → Enough s at f → Enough s at g → clauses f s at ≡ clauses g s at) → byte s at ≡ 0x04 → (x : Read Formula) → formula g s 0 (at + 1) ≡ x
        → and_then x (counted f s at) ≡ and_then x (counted g s at)
    read same b (whole ψ next) e =
        let l = formula_ends g s 0 (at + 1) ψ next e in
        let w = within s at b in
        after same ψ next (omega arith) (omega arith) (leb (length (facts_of ψ)) most_facts) refl
    read same b (refused i n) e = refl
    read same b unfinished e = refl

    go : ((at : ℕ) → Enough s at f → Enough s at g → clauses f s at ≡ clauses g s at) → (b : Bool) → eqb (byte s at) 0x04 ≡ b → clauses (suc f) s at ≡ clauses (suc g) s at
    go same true e =
        let b = eqb-true (byte s at) 0x04 e in
        let w = within s at b in
        rw (step f s at b, step g s at b, formula_fuel f g s 0 (at + 1) (omega arith) (omega arith)) (read same b (formula g s 0 (at + 1)) refl)
    go same false e = step_end f s at (eqb-false _ _ e) ∙ sym (step_end g s at (eqb-false _ _ e))

pub clauses_finishes : (f : ℕ) (s : List ℕ) (at : ℕ) → Enough s at f → Finished (clauses f s at)
clauses_finishes zero s at h = absurd (omega arith)
clauses_finishes (suc f) s at h = go (λ at' h'. clauses_finishes f s at' h') (eqb (byte s at) 0x04) refl
  where
    after : (ψ : Formula) (next : ℕ) → Finished (clauses f s next) → (b : Bool) → leb (length (facts_of ψ)) most_facts ≡ b → Finished (counted f s at ψ next)
    after ψ next fin true e = rw (few f s at ψ next (leb-true _ _ e)) (last_finishes (clauses f s next) (◌∷◌ ψ) fin)
    after ψ next fin false e = rw (many f s at ψ next (leb-false _ _ e)) tt

    go : ((at : ℕ) → Enough s at f → Finished (clauses f s at)) → (b : Bool) → eqb (byte s at) 0x04 ≡ b → Finished (clauses (suc f) s at)
    go fin true e =
        let b = eqb-true (byte s at) 0x04 e in
        let w = within s at b in
        rw (step f s at b)
        (and_then_finishes (formula f s 0 (at + 1)) (counted f s at) (formula_finishes f s 0 (at + 1) (omega arith)) λ ψ next q.
        let l = formula_ends f s 0 (at + 1) ψ next q in
        after ψ next (fin next (omega arith)) (leb (length (facts_of ψ)) most_facts) refl)
    go fin false e = rw (step_end f s at (eqb-false _ _ e)) tt

-- What is read from here on is what is read from the start.
pub record ClausesContinue (s : List ℕ) (start at : ℕ) : Type 0 where
  pub continues : (r : Result Position ReadError) → ClausesRead s at r → ClausesRead s start r

pub clauses_start : (s : List ℕ) (at : ℕ) → ClausesContinue s at at
clauses_start s at = record { continues = λ r h. h }

module _ (s : List ℕ) (start : ℕ) (place : Position) (on : ClausesContinue s start place.at) (mark : Option Position) (m : mark ≡ past s place.at 0x04) where
  pub clauses_end : mark ≡ None → ClausesRead s start (Ok place)
  clauses_end e = on.continues (Ok place) λ f h. agrees f h
    where
      agrees : (f : ℕ) → Enough s place.at f → Agrees (clauses f s place.at) (Ok place)
      agrees zero h = absurd (omega arith)
      agrees (suc f) h = rw (step_end f s place.at (past_other s place.at 0x04 mark m e (λ z. absurd (omega arith)))) (refl, tt)

  module _ (first : Position) (e : mark ≡ Some first) where
    o : (place.at < length s) × (byte s place.at ≡ 0x04) × (first.at ≡ place.at + 1)
    o = past_over s place.at 0x04 mark first m e

    here : byte s place.at ≡ 0x04
    here = o.1

    -- What is read behind the `04`.
    reads : (r : Result Position ReadError) → FormulaReads s 0 first.at r → (f : ℕ) → Enough s place.at (suc f) → Agrees (formula f s 0 (place.at + 1)) r
    reads r read f h = rw o.2 at (read f (omega (arith, o.0, o.2)))

    pub clauses_refused : (i : ReadError) → FormulaReads s 0 first.at (Err i) → ClausesRead s start (Err i)
    clauses_refused i read = on.continues (Err i) λ f h. agrees f h
      where
        agrees : (f : ℕ) → Enough s place.at f → Agrees (clauses f s place.at) (Err i)
        agrees zero h = absurd (omega arith)
        agrees (suc f) h =
            rw (step f s place.at here, agrees_refused (λ ψ end. Unit {0}) (formula f s 0 (place.at + 1)) i (reads (Err i) read f h)) (refl, refl)

    module _ (next : Position) (read : FormulaReads s 0 first.at (Ok next)) where
      pub clause_falls : length s - next.at < length s - place.at
      clause_falls = let n = formula_moved s 0 first.at next read in omega (arith, o.0, o.2)

      pub clause_stands : first.at ≤ next.at
      clause_stands = let n = formula_moved s 0 first.at next read in omega arith

      module _ (t : Bool) (facts : ManyFacts s first.at next.at t) where
        -- The formula at a fuel that is enough, and whether it has too many facts.
        formed : (f : ℕ) → Enough s place.at (suc f) → (ψ : Formula) × (formula f s 0 (place.at + 1) ≡ whole ψ next.at) × (t ≡ ltb most_facts (length (facts_of ψ)))
        formed f h =
            let a = agrees_whole (λ ψ end. Unit {0}) (formula f s 0 (place.at + 1)) next (reads (Ok next) read f h) in
            (a.0, a.1, facts f 0 a.0 (ap (formula f s 0) o.2 ∙ a.1))

        pub clauses_many : t ≡ true → ClausesRead s start (Err (record { form = TooManyFacts; at = place.at }))
        clauses_many l = on.continues (Err (record { form = TooManyFacts; at = place.at })) λ f h. agrees f h
          where
            agrees : (f : ℕ) → Enough s place.at f → Agrees (clauses f s place.at) (Err (record { form = TooManyFacts; at = place.at }))
            agrees zero h = absurd (omega arith)
            agrees (suc f) h =
                let a = formed f h in
                rw (step f s place.at here, a.1, many f s place.at a.0 next.at (ltb-true _ _ (sym a.2 ∙ l))) (refl, refl)

        pub clauses_more : t ≡ false → ClausesContinue s start next.at
        clauses_more l = record { continues = λ p h. on.continues p λ f n. agrees p h f n }
          where
            agrees : (p : Result Position ReadError) → ClausesRead s next.at p → (f : ℕ) → Enough s place.at f → Agrees (clauses f s place.at) p
            agrees p h zero n = absurd (omega arith)
            agrees p h (suc f) n =
                let a = formed f n in
                let z = formula_ends f s 0 (place.at + 1) a.0 next.at a.1 in
                rw (step f s place.at here, a.1, few f s place.at a.0 next.at (ltb-false _ _ (sym a.2 ∙ l)))
                (last_agrees (clauses f s next.at) (◌∷◌ a.0) p (h f (omega (arith, o.0))))
