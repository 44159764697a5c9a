-- The rules up to `05 e`: what each command makes of the reading, and what code that reads them does.
use Prim.Native.Nat.{ℕ, zero, suc, ◌+◌, ◌-◌, ◌≤◌, ◌<◌}
use mathlib.Core.Path.{◌≡◌, refl, sym, ◌∙◌}
use mathlib.Core.List.{List, [], ◌∷◌, ◌++◌}
use mathlib.Core.Bool.{Bool, true, false, not, ◌&&◌, and-true}
use native.Mathlib.Omega.{arith}
use lib.ListN.{length}
use lib.Dec.{leb, eqb}
use borrow.Author.Tests.{eq-eqb, ne_eqb, eqb-true, eqb-false, leb-true, not-true, not-false}
use Rattle.std.specs.Prelude.{Result, Ok, Err}
use Rattle.verdicts.specs.declared.Form.{Form}
use Rattle.verdicts.specs.declared.Form.TheVariants.{NotRising, Missing}
use Rattle.sets.specs.Sets.{member}
use Rattle.commands.specs.declared.Context.TheVariants.{Rules}
use Rattle.commands.specs.declared.Position.{Position}
use Rattle.commands.specs.declared.Decoded.{Decoded}
use Rattle.commands.specs.declared.Decoded.TheVariants as Decodeds
use Rattle.commands.specs.declared.ReadError.{ReadError}
use Rattle.commands.specs.Commands.{byte, allowed, command, operands_of, in_range, all_in_range}
use Rattle.commands.specs.Reading.{whole, refused, and_then, enough}
use Rattle.commands.specs.Inner.Parts.{part_of, AgreesWith, Enough}
use Rattle.commands.proofs.Laws.{refused_with, moved, MovedOver, and_then_whole}
use Rattle.vocabularies.specs.declared.Rule as Tabled
use Rattle.vocabularies.specs.declared.Tables.{Tables}
use Rattle.vocabularies.specs.Vocabulary.{Rule, Vocabulary, declared}
use Rattle.vocabularies.specs.VocabularyReading.{rule_body, rules, vocabulary}
use Rattle.vocabularies.specs.Inner.Promises.{RuleReads, RuleKept, DescribesRules, AddsRule, Describes, VocabularyReads}
use Rattle.vocabularies.proofs.Parts.{agrees_with_whole, agrees_with_refused, plenty, is_plenty, Finished, and_then_finishes}
use Rattle.vocabularies.proofs.Rules.{rule_element, rule_fuel, rule_finishes}

-- One step of the definition.
module _ (f : ℕ) (s : List ℕ) (given : List Rule) (at : ℕ) where
  step_refused : (i : Form) (n : ℕ) → command Rules s at ≡ Decodeds.Refused i n → rules (suc f) s given at ≡ refused i n
  unfolding rules
  step_refused i n c = rw c

  module _ (code : ℕ) (next : Position) (c : command Rules s at ≡ Decodeds.Moved code next) where
    step_root : code ≡ 0x05 → declared given (byte s (at + 1)) ≡ true → rules (suc f) s given at ≡ whole (record { rules = given; root = byte s (at + 1) }) next.at
    unfolding rules
    step_root k d = rw (c, eq-eqb code 0x05 k, d)

    step_missing : code ≡ 0x05 → declared given (byte s (at + 1)) ≡ false → rules (suc f) s given at ≡ refused Missing at
    unfolding rules
    step_missing k d = rw (c, eq-eqb code 0x05 k, d)

    step_twice : (code ≡ 0x05 → ⊥) → declared given (byte s (at + 1)) ≡ true → rules (suc f) s given at ≡ refused NotRising at
    unfolding rules
    step_twice k d = rw (c, ne_eqb code 0x05 k, d)

    step_rule : (code ≡ 0x05 → ⊥) → declared given (byte s (at + 1)) ≡ false
        → rules (suc f) s given at ≡ and_then (rule_body f s (byte s (at + 1)) next.at) (λ r end. rules f s (given ++ (r ∷ [])) end)
    unfolding rules
    step_rule k d = rw (c, ne_eqb code 0x05 k, d)

-- What stands at an offset of the rules.
data Stands (s : List ℕ) (given : List Rule) (at : ℕ) : Type 0 where
  refuses : (i : Form) (n : ℕ) → command Rules s at ≡ Decodeds.Refused i n → Stands s given at
  root : (code : ℕ) (next : Position) → command Rules s at ≡ Decodeds.Moved code next → code ≡ 0x05 → declared given (byte s (at + 1)) ≡ true → Stands s given at
  missing : (code : ℕ) (next : Position) → command Rules s at ≡ Decodeds.Moved code next → code ≡ 0x05 → declared given (byte s (at + 1)) ≡ false → Stands s given at
  twice : (code : ℕ) (next : Position) → command Rules s at ≡ Decodeds.Moved code next → (code ≡ 0x05 → ⊥) → declared given (byte s (at + 1)) ≡ true → Stands s given at
  rule : (code : ℕ) (next : Position) → command Rules s at ≡ Decodeds.Moved code next → (code ≡ 0x05 → ⊥) → declared given (byte s (at + 1)) ≡ false → Stands s given at

stands : (s : List ℕ) (given : List Rule) (at : ℕ) → Stands s given at
stands s given at = by_command (command Rules s at) refl
  where
    by_tests : (code : ℕ) (next : Position) → command Rules s at ≡ Decodeds.Moved code next → (b d : Bool) → eqb code 0x05 ≡ b → declared given (byte s (at + 1)) ≡ d → Stands s given at
    by_tests code next c true true e k = root code next c (eqb-true code 0x05 e) k
    by_tests code next c true false e k = missing code next c (eqb-true code 0x05 e) k
    by_tests code next c false true e k = twice code next c (eqb-false code 0x05 e) k
    by_tests code next c false false e k = rule code next c (eqb-false code 0x05 e) k

    by_command : (d : Decoded) → command Rules s at ≡ d → Stands s given at
    by_command (Decodeds.Moved code next) c = by_tests code next c (eqb code 0x05) (declared given (byte s (at + 1))) refl refl
    by_command (Decodeds.Refused i n) c = refuses i n c

-- The rules end behind their start, and within the bytes.
pub rules_ends : (f : ℕ) (s : List ℕ) (given : List Rule) (at : ℕ) (D : Vocabulary) (end : ℕ) → rules f s given at ≡ whole D end → (at < end) × (end ≤ length s)
unfolding rules
rules_ends zero s given at D end e = absurd (let z : ◌≡◌ {A = ℕ} 0 1 = cc in omega arith)
rules_ends (suc f) s given at D end e = go (λ given' at' e'. rules_ends f s given' at' D end e') (stands s given at)
  where
    go : ((given : List Rule) (at : ℕ) → rules f s given at ≡ whole D end → (at < end) × (end ≤ length s)) → Stands s given at → (at < end) × (end ≤ length s)
    go ends (refuses i n c) = absurd (let z : ◌≡◌ {A = ℕ} 0 1 = cc (step_refused f s given at i n c) in omega arith)
    go ends (root code next c k d) = let z : next.at ≡ end = cc (step_root f s given at code next c k d) in omega (arith, moved Rules s at code next c)
    go ends (missing code next c k d) = absurd (let z : ◌≡◌ {A = ℕ} 0 1 = cc (step_missing f s given at code next c k d) in omega arith)
    go ends (twice code next c k d) = absurd (let z : ◌≡◌ {A = ℕ} 0 1 = cc (step_twice f s given at code next c k d) in omega arith)
    go ends (rule code next c k d) =
        let w = and_then_whole (rule_body f s (byte s (at + 1)) next.at) (λ r end. rules f s (given ++ (r ∷ [])) end) D end (sym (step_rule f s given at code next c k d) ∙ e) in
        let l = rule_element f s (byte s (at + 1)) next.at w.0 w.1 w.2 in
        let o = ends (given ++ (w.0 ∷ [])) w.1 w.3 in
        omega (arith, moved Rules s at code next c)

pub rules_finishes : (f : ℕ) (s : List ℕ) (given : List Rule) (at : ℕ) → Enough s at f → Finished (rules f s given at)
rules_finishes zero s given at h = absurd (omega arith)
rules_finishes (suc f) s given at h = go (λ given' at' h'. rules_finishes f s given' at' h') (stands s given at)
  where
    go : ((given : List Rule) (at : ℕ) → Enough s at f → Finished (rules f s given at)) → Stands s given at → Finished (rules (suc f) s given at)
    go fin (refuses i n c) = rw (step_refused f s given at i n c) tt
    go fin (root code next c k d) = rw (step_root f s given at code next c k d) tt
    go fin (missing code next c k d) = rw (step_missing f s given at code next c k d) tt
    go fin (twice code next c k d) = rw (step_twice f s given at code next c k d) tt
    go fin (rule code next c k d) =
        let m = moved Rules s at code next c in
        rw (step_rule f s given at code next c k d)
        (and_then_finishes (rule_body f s (byte s (at + 1)) next.at) (λ r end. rules f s (given ++ (r ∷ [])) end) (rule_finishes f s (byte s (at + 1)) next.at (omega arith)) λ r end e.
        let l = rule_element f s (byte s (at + 1)) next.at r end e in
        fin (given ++ (r ∷ [])) end (omega arith))

pub vocabulary_ends : (s : List ℕ) (D : Vocabulary) (end : ℕ) → vocabulary s ≡ whole D end → (0 < end) × (end ≤ length s)
unfolding vocabulary
vocabulary_ends s D end e = rules_ends (enough s) s [] 0 D end e

-- The fuel that is given does not run out.
pub vocabulary_finishes : (s : List ℕ) → Finished (vocabulary s)
unfolding vocabulary
vocabulary_finishes s = rules_finishes (enough s) s [] 0 (omega arith)

-- The element of `01 e` or `05 e` is below 64.
second : (b : Bool) (y : ℕ) → (b && leb y 63 && true) ≡ true → y < 64
second true y e = let l : y ≤ 63 = leb-true y 63 (sym (and-true (leb y 63)) ∙ e) in omega arith
second false y e = absurd (let z : ◌≡◌ {A = ℕ} 0 1 = cc in omega arith)

element_low : (s : List ℕ) (at code : ℕ) (next : Position) → MovedOver Rules s at code next → byte s (at + 1) < 64
unfolding allowed operands_of all_in_range in_range
element_low s at code next m = go (eqb (byte s at) 0x01) refl
  where
    go : (b : Bool) → eqb (byte s at) 0x01 ≡ b → byte s (at + 1) < 64
    go true e = second (leb 1 (byte s (at + 1))) (byte s (at + 1)) (rw (eqb-true (byte s at) 0x01 e) at m.ranges)
    go false e = second (leb 1 (byte s (at + 1))) (byte s (at + 1)) (rw (eqb-true (byte s at) 0x05 (rw e at m.permitted)) at m.ranges)

-- What code that reads rules does: from a place on, after those given.
abbrev pub RulesFrom : List ℕ → List Rule → ℕ → Result (Tables × Position) ReadError → Type 0
RulesFrom s given at r = (f : ℕ) → Enough s at f → AgreesWith (Describes s) (rules f s given at) r

-- The tables describe the rules given, and what is read from here on after those is what is read from the start.
pub record RulesContinue (s : List ℕ) (at : ℕ) (t : Tables) : Type 0 where
  pub given : List Rule
  pub describes : DescribesRules s given t
  pub continues : (r : Result (Tables × Position) ReadError) → RulesFrom s given at r → VocabularyReads s r

pub rules_start : (s : List ℕ) (t : Tables) (place : Position) → ((s : List ℕ) → DescribesRules s [] t) → place ≡ record { at = 0 } → RulesContinue s place.at t
unfolding vocabulary
rules_start s t place h e = rw e (record { given = []; describes = h s; continues = λ r k. k (enough s) (omega arith) })

module _ (s : List ℕ) (place : Position) (t : Tables) (on : RulesContinue s place.at t) (d : Decoded) (c : d ≡ command Rules s place.at) where
  pub rules_refused : (i : ReadError) → part_of d ≡ Err i → VocabularyReads s (Err i)
  rules_refused i q = on.continues (Err i) λ f h. agrees f h
    where
      agrees : (f : ℕ) → Enough s place.at f → AgreesWith (Describes s) (rules f s on.given place.at) (Err i)
      agrees zero h = absurd (omega arith)
      agrees (suc f) h = rw (step_refused f s on.given place.at i.form i.at (sym c ∙ refused_with d i q)) (refl, refl)

  module _ (code : ℕ) (next : Position) (q : d ≡ Decodeds.Moved code next) (e : ℕ) (named : e ≡ byte s (place.at + 1)) where
    pub element_fits : e < 64
    element_fits = rw named (element_low s place.at code next (moved Rules s place.at code next (sym c ∙ q)))

    declared_as : (b : Bool) → member t.declared e ≡ b → declared on.given (byte s (place.at + 1)) ≡ b
    declared_as b k = rw (← named) (sym (on.describes.declares e) ∙ k)

    module _ (known : Bool) (told : known ≡ member t.declared e) where
      is_declared : (b : Bool) → known ≡ b → declared on.given (byte s (place.at + 1)) ≡ b
      is_declared b k = declared_as b (sym told ∙ k)

      pub rules_unrooted : code ≡ 0x05 → not known ≡ true → VocabularyReads s (Err (record { form = Missing; at = place.at }))
      rules_unrooted k z = on.continues (Err (record { form = Missing; at = place.at })) λ f h. agrees f h
        where
          agrees : (f : ℕ) → Enough s place.at f → AgreesWith (Describes s) (rules f s on.given place.at) (Err (record { form = Missing; at = place.at }))
          agrees zero h = absurd (omega arith)
          agrees (suc f) h = rw (step_missing f s on.given place.at code next (sym c ∙ q) k (is_declared false (not-true known z))) (refl, refl)

      pub rules_rooted : code ≡ 0x05 → not known ≡ false
          → VocabularyReads s (Ok (record { declared = t.declared; rules = t.rules; root = e }, next))
      rules_rooted k z = on.continues (Ok (rooted, next)) λ f h. agrees f h
        where
          rooted : Tables
          rooted = record { declared = t.declared; rules = t.rules; root = e }

          agrees : (f : ℕ) → Enough s place.at f → AgreesWith (Describes s) (rules f s on.given place.at) (Ok (rooted, next))
          agrees zero h = absurd (omega arith)
          agrees (suc f) h = rw (step_root f s on.given place.at code next (sym c ∙ q) k (is_declared true (not-false known z)))
              (refl, record { declares = on.describes.declares; names_root = named; rule = on.describes.rule })

      pub rules_twice : (code ≡ 0x05 → ⊥) → known ≡ true → VocabularyReads s (Err (record { form = NotRising; at = place.at }))
      rules_twice k z = on.continues (Err (record { form = NotRising; at = place.at })) λ f h. agrees f h
        where
          agrees : (f : ℕ) → Enough s place.at f → AgreesWith (Describes s) (rules f s on.given place.at) (Err (record { form = NotRising; at = place.at }))
          agrees zero h = absurd (omega arith)
          agrees (suc f) h = rw (step_twice f s on.given place.at code next (sym c ∙ q) k (is_declared true z)) (refl, refl)

      module _ (k : code ≡ 0x05 → ⊥) (z : known ≡ false) where
        m : MovedOver Rules s place.at code next
        m = moved Rules s place.at code next (sym c ∙ q)

        stepped : (f : ℕ) → rules (suc f) s on.given place.at ≡ and_then (rule_body f s e next.at) (λ r end. rules f s (on.given ++ (r ∷ [])) end)
        stepped f = rw (step_rule f s on.given place.at code next (sym c ∙ q) k (is_declared false z), named)

        pub rules_broken : (i : ReadError) → RuleReads s next.at (Err i) → VocabularyReads s (Err i)
        rules_broken i read = on.continues (Err i) λ f h. agrees f h
          where
            agrees : (f : ℕ) → Enough s place.at f → AgreesWith (Describes s) (rules f s on.given place.at) (Err i)
            agrees zero h = absurd (omega arith)
            agrees (suc f) h =
                let l : Enough s next.at f = omega (arith, m) in
                rw (stepped f, agrees_with_refused (RuleKept s) (rule_body f s e next.at) i (read e f l)) (refl, refl)

        module _ (w : Tabled.Rule) (end : Position) (read : RuleReads s next.at (Ok (w, end))) where
          -- The rule, at a fuel that is enough.
          the_rule : (r : Rule) × (rule_body (plenty s next.at) s e next.at ≡ whole r end.at) × RuleKept s r w
          the_rule = agrees_with_whole (RuleKept s) (rule_body (plenty s next.at) s e next.at) w end (read e (plenty s next.at) (is_plenty s next.at))

          pub rules_more : (t' : Tables) → AddsRule t e w t' → RulesContinue s end.at t'
          rules_more t' adds =
              let r = the_rule in
              let l = rule_element (plenty s next.at) s e next.at r.0 end.at r.1 in
              record {
                given = on.given ++ (r.0 ∷ []);
                describes = adds s on.given r.0 on.describes (rw named (is_declared false z)) l.0 r.2;
                continues = λ v h. on.continues v λ f n. agrees r.0 r.1 l.1 v h f n;
              }
            where
              agrees : (r : Rule) → rule_body (plenty s next.at) s e next.at ≡ whole r end.at → next.at ≤ end.at → (v : Result (Tables × Position) ReadError) → RulesFrom s (on.given ++ (r ∷ [])) end.at v
                  → (f : ℕ) → Enough s place.at f → AgreesWith (Describes s) (rules f s on.given place.at) v
              agrees r b o v h zero n = absurd (omega arith)
              agrees r b o v h (suc f) n =
                  let l : Enough s next.at f = omega (arith, m) in
                  rw (stepped f, rule_fuel f (plenty s next.at) s e next.at l (is_plenty s next.at), b) (h f (omega arith))

          pub rules_fall : length s - end.at < length s - place.at
          rules_fall = let r = the_rule in let l = rule_element (plenty s next.at) s e next.at r.0 end.at r.1 in omega (arith, m)
