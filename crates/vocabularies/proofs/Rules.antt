-- Rules: where one ends, that enough fuel reads it in one way, and what code that reads one, and keeps them in tables, does.
use Prim.Native.Nat.{ℕ, ◌≤◌, ◌<◌}
use mathlib.Core.Path.{◌≡◌, refl, sym, ◌∙◌}
use mathlib.Core.List.{List, [], ◌∷◌, ◌++◌}
use mathlib.Core.Option.{Option, some, none}
use mathlib.Core.Bool.{Bool, true, false, cond, ◌||◌, false≢true}
use native.Mathlib.Omega.{arith}
use lib.ListN.{length, get_or, set}
use lib.Seq.{get_or-set_same, get_or-set_other}
use lib.Dec.{eqb}
use borrow.Author.Tests.{eq-eqb, ne_eqb, eqb-true, eqb-false}
use Rattle.std.specs.Prelude.{Ok, Err}
use Rattle.sets.specs.Sets.{member}
use Rattle.sets.proofs.Laws.{member_zero}
use Rattle.commands.specs.declared.Context.TheVariants.{Attributes, Contents}
use Rattle.commands.specs.declared.Position.{Position}
use Rattle.commands.specs.declared.ReadError.{ReadError}
use Rattle.commands.specs.Reading.{Read, whole, and_then}
use Rattle.commands.specs.Inner.Parts.{Enough}
use Rattle.commands.proofs.Laws.{and_then_whole}
use Rattle.vocabularies.specs.declared.Rule as Tabled
use Rattle.vocabularies.specs.declared.Tables.{Tables}
use Rattle.vocabularies.specs.Vocabulary.{Rule, is_in, rule_of, is_some, declared}
use Rattle.vocabularies.specs.VocabularyReading.{rising, clauses, rule_body}
use Rattle.vocabularies.specs.Inner.Promises.{NamesRead, ClausesRead, RuleReads, RuleKept, no_rule, DescribesRules, AddsRule}
use Rattle.vocabularies.proofs.Parts.{agrees_whole, agrees_refused, agrees_with_whole, agrees_with_refused, and_then_same, last_whole, Finished, last_finishes, and_then_finishes}
use Rattle.vocabularies.proofs.NameLists.{rising_ends, rising_fuel, rising_finishes}
use Rattle.vocabularies.proofs.Clauses.{clauses_ends, clauses_fuel, clauses_finishes}

-- A rule that is there.
pub rule_found : (o : Option Rule) → is_some o ≡ true → (r : Rule) × (o ≡ some r)
rule_found none h = absurd (false≢true h)
rule_found (some r) h = (r, refl)

-- What follows the attributes of a rule, and its contents.
abbrev with_clauses : ℕ → List ℕ → ℕ → List ℕ → List ℕ → ℕ → Read Rule
with_clauses f s e names cs next = and_then (clauses f s next) λ ψs end. whole (record { element = e; attributes = names; contents = cs; clauses = ψs }) end

abbrev with_contents : ℕ → List ℕ → ℕ → List ℕ → ℕ → Read Rule
with_contents f s e names next = and_then (rising f Contents s 0 next) (with_clauses f s e names)

-- A rule that was read: its element, and its end.
pub rule_element : (f : ℕ) (s : List ℕ) (e at : ℕ) (r : Rule) (end : ℕ) → rule_body f s e at ≡ whole r end → (r.element ≡ e) × (at ≤ end)
rule_element f s e at r end h =
    let x = and_then_whole (rising f Attributes s 0 at) (with_contents f s e) r end h in
    let y = and_then_whole (rising f Contents s 0 x.1) (with_clauses f s e x.0) r end x.3 in
    let z = last_whole (clauses f s y.1) (λ ψs. record { element = e; attributes = x.0; contents = y.0; clauses = ψs }) r end y.3 in
    let l₁ = rising_ends f Attributes s 0 at x.0 x.1 x.2 in
    let l₂ = rising_ends f Contents s 0 x.1 y.0 y.1 y.2 in
    let l₃ = clauses_ends f s y.1 z.0 end z.1 in
    (rw z.2, omega arith)

-- Any two fuels that are enough read the same.
pub rule_fuel : (f g : ℕ) (s : List ℕ) (e at : ℕ) → Enough s at f → Enough s at g → rule_body f s e at ≡ rule_body g s e at
rule_fuel f g s e at h k =
    and_then_same (rising f Attributes s 0 at) (rising g Attributes s 0 at) (with_contents f s e) (with_contents g s e) (rising_fuel f g Attributes s 0 at h k) λ names next x.
    let l₁ = rising_ends g Attributes s 0 at names next x in
    and_then_same (rising f Contents s 0 next) (rising g Contents s 0 next) (with_clauses f s e names) (with_clauses g s e names)
    (rising_fuel f g Contents s 0 next (omega arith) (omega arith)) λ cs next' y.
    let l₂ = rising_ends g Contents s 0 next cs next' y in
    rw (clauses_fuel f g s next' (omega arith) (omega arith))

pub rule_finishes : (f : ℕ) (s : List ℕ) (e at : ℕ) → Enough s at f → Finished (rule_body f s e at)
rule_finishes f s e at h =
    and_then_finishes (rising f Attributes s 0 at) (with_contents f s e) (rising_finishes f Attributes s 0 at h) λ names next x.
    let l₁ = rising_ends f Attributes s 0 at names next x in
    and_then_finishes (rising f Contents s 0 next) (with_clauses f s e names) (rising_finishes f Contents s 0 next (omega arith)) λ cs next' y.
    let l₂ = rising_ends f Contents s 0 next cs next' y in
    last_finishes (clauses f s next') (λ ψs. record { element = e; attributes = names; contents = cs; clauses = ψs }) (clauses_finishes f s next' (omega arith))

abbrev Names : List ℕ → ℕ → Type 0
Names ns set = (k : ℕ) → member set k ≡ is_in k ns

-- What code that reads a rule does. A refusal in a list is the rule's.
module _ (s : List ℕ) (at : ℕ) where
  module _ (attributes : ℕ) (next : Position) (read : NamesRead s Attributes at (Ok (attributes, next))) where
    -- The attributes at a fuel that is enough, and that it is enough behind them.
    attributes_read : (f : ℕ) → Enough s at f → (ns : List ℕ) × (rising f Attributes s 0 at ≡ whole ns next.at) × Names ns attributes × Enough s next.at f
    attributes_read f h =
        let a = agrees_with_whole Names (rising f Attributes s 0 at) attributes next (read f h) in
        let l = rising_ends f Attributes s 0 at a.0 next.at a.1 in
        (a.0, a.1, a.2, omega arith)

    pub rule_contents : (i : ReadError) → NamesRead s Contents next.at (Err i) → RuleReads s at (Err i)
    rule_contents i read' e f h =
        let a = attributes_read f h in
        rw (a.1, agrees_with_refused Names (rising f Contents s 0 next.at) i (read' f a.3)) (refl, refl)

    module _ (contents : ℕ) (next' : Position) (read' : NamesRead s Contents next.at (Ok (contents, next'))) where
      -- The contents at a fuel that is enough, and that it is enough behind them.
      contents_read : (f : ℕ) → Enough s next.at f → (ns : List ℕ) × (rising f Contents s 0 next.at ≡ whole ns next'.at) × Names ns contents × Enough s next'.at f
      contents_read f h =
          let b = agrees_with_whole Names (rising f Contents s 0 next.at) contents next' (read' f h) in
          let l = rising_ends f Contents s 0 next.at b.0 next'.at b.1 in
          (b.0, b.1, b.2, omega arith)

      pub rule_clauses : (i : ReadError) → ClausesRead s next'.at (Err i) → RuleReads s at (Err i)
      rule_clauses i read'' e f h =
          let a = attributes_read f h in
          let b = contents_read f a.3 in
          rw (a.1, b.1, agrees_refused (λ ψs end. Unit {0}) (clauses f s next'.at) i (read'' f b.3)) (refl, refl)

      pub rule_whole : (end : Position) → ClausesRead s next'.at (Ok end) → RuleReads s at (Ok (record { attributes = attributes; contents = contents; clauses = next' }, end))
      rule_whole end read'' e f h =
          let a = attributes_read f h in
          let b = contents_read f a.3 in
          let c = agrees_whole (λ ψs end'. Unit {0}) (clauses f s next'.at) end (read'' f b.3) in
          rw (a.1, b.1, c.1) (refl, record { allows = a.2; holds = b.2; stands = λ g n'. (end.at, clauses_fuel g f s next'.at n' b.3 ∙ c.1) })

-- The rule of an element, where one more is put behind the others.
rule_same : (rs : List Rule) (r : Rule) (e : ℕ) → declared rs e ≡ false → r.element ≡ e → rule_of (rs ++ (r ∷ [])) e ≡ some r
unfolding rule_of
rule_same [] r e h q = rw (eq-eqb r.element e q)
rule_same (r' ∷ rs) r e h q = go (λ k. rule_same rs r e k q) (eqb r'.element e) h
  where
    go : (declared rs e ≡ false → rule_of (rs ++ (r ∷ [])) e ≡ some r) → (b : Bool) → is_some (cond b (some r') (rule_of rs e)) ≡ false
        → cond b (some r') (rule_of (rs ++ (r ∷ [])) e) ≡ some r
    go same true k = absurd (let z : ◌≡◌ {A = ℕ} 0 1 = cc in omega arith)
    go same false k = same k

rule_other : (rs : List Rule) (r : Rule) (e : ℕ) → (r.element ≡ e → ⊥) → rule_of (rs ++ (r ∷ [])) e ≡ rule_of rs e
unfolding rule_of
rule_other [] r e n = rw (ne_eqb r.element e n)
rule_other (r' ∷ rs) r e n = rw (rule_other rs r e n)

-- Tables: none at first, and one rule more.
pub no_rules : (s : List ℕ) (t : Tables) → t.declared ≡ 0 → DescribesRules s [] t
unfolding rule_of
no_rules s t z = record { declares = λ e. rw z (member_zero e); names_root = refl; rule = λ e r h. absurd (let y : ◌≡◌ {A = ℕ} 0 1 = cc in omega arith) }

module _ (t : Tables) (e : ℕ) (x : Tabled.Rule) (word : ℕ) (told : (k : ℕ) → member word k ≡ (eqb k e || member t.declared k)) where
  pub adds_rule : e < length t.rules → AddsRule t e x (record { declared = word; rules = set t.rules e x; root = t.root })
  adds_rule l s rs r d none' q kept = record { declares = λ k. declares' k (eqb k e) refl; names_root = refl; rule = λ k r' h. rule' k (eqb k e) refl r' h }
    where
      other : (k : ℕ) → eqb k e ≡ false → rule_of (rs ++ (r ∷ [])) k ≡ rule_of rs k
      other k b = rule_other rs r k (λ z. eqb-false k e b (sym z ∙ q))

      declares' : (k : ℕ) (b : Bool) → eqb k e ≡ b → member word k ≡ declared (rs ++ (r ∷ [])) k
      declares' k true b = rw (told k, b, eqb-true k e b, rule_same rs r e none' q)
      declares' k false b = rw (told k, b, other k b) (d.declares k)

      rule' : (k : ℕ) (b : Bool) → eqb k e ≡ b → (r' : Rule) → rule_of (rs ++ (r ∷ [])) k ≡ some r'
          → RuleKept s r' (get_or (set t.rules e x) k no_rule)
      rule' k true b r' h =
          let y : k ≡ e = eqb-true k e b in
          let z : r' ≡ r = cc (rule_same rs r e none' q) in
          rw (z, y, get_or-set_same t.rules e x no_rule l) kept
      rule' k false b r' h =
          let n : k ≡ e → ⊥ = eqb-false k e b in
          rw (get_or-set_other t.rules e k x no_rule n) (d.rule k r' (sym (other k b) ∙ h))
