-- A proposal of entries says what they hold, and no more.
use Prim.Native.Nat.{ℕ, zero, suc, ◌+◌, ◌-◌, ◌≤◌, ◌<◌}
use native.Mathlib.Omega.{arith}
use native.Mathlib.Decide.{dec_le}
use mathlib.Core.Path.{◌≡◌, refl, sym, ap, subst, ◌∙◌}
use mathlib.Core.List.{List, [], ◌∷◌, ◌++◌}
use mathlib.Core.Bool.{Bool, true, false, cond, not, ◌&&◌, false≢true, and-false}
use mathlib.Core.Logic.{⊎_elim}
use lib.Dec.{eqb, leb, ltb}
use borrow.Author.Tests.{eqb-true, eq-eqb, ne_eqb, leb-true, ltb-true, lt-ltb, le-ltb}
use Rattle.commands.specs.Commands.{strings}
use Rattle.programs.specs.Program.{Variable, template_variable, string_variable}
use Rattle.summaries.specs.Proposal.{Claim, root, edge, string, gap_from, attribute_gap_from, Holding, claim, any_at, one_string, any_string, Head}
use Rattle.summaries.specs.ProposalReading.{variable_of}
use Rattle.summaries.specs.Summaries.{Summary, Strings, Environment, says_claim, says_string, held, same_variable, under, entries}
use Rattle.summaries.specs.ProposalOf.{each, where_held, unlisted, root_items, edge_items, string_items, any_items, gap_items, attribute_gap_items, template_items, variable_strings, items_of, headed, proposal_of}
use Rattle.sets.proofs.Booleans.{or_cases, and_left, and_right, alike, refuted}
use Rattle.summaries.proofs.Held.{held_before, held_behind}
use Rattle.graphs.proofs.Claims.{says_itself, says_alone, says_any}
use Rattle.least_entries.specs.Inner.Order.{Alike}
use Rattle.least_entries.specs.Inner.Holding.{PlainStrings, PlainSummary, Plain, claim_fits, OnlyThere}
use Rattle.least_entries.proofs.Each.{Every, done, with, every_append, every_each, every_where}
use Rattle.least_entries.proofs.Rising.{each_variable}

-- What the items of a list say.
module _ {A : Type 0} (says : Holding → A → Bool) (a : A) where
  held_each : (n : ℕ) (f : ℕ → List Holding) (k : ℕ) → k < n → held says (f k) a ≡ true → held says (each n f) a ≡ true
  unfolding each
  held_each zero f k l e = absurd (omega arith)
  held_each (suc n) f k l e = by_last (dec_le n k) (held_each n f k)
    where
      by_last : Dec (n ≤ k) → (k < n → held says (f k) a ≡ true → held says (each n f) a ≡ true) → held says (each n f ++ f n) a ≡ true
      by_last (yes h) r = let same : k ≡ n = omega arith in held_behind says a (each n f) (f n) (subst (λ (m : ℕ). held says (f m) a ≡ true) same e)
      by_last (no h) r = held_before says a (each n f) (f n) (r (omega arith) e)

  held_where : (b : Bool) (y : Holding) → b ≡ true → says y a ≡ true → held says (where_held b y) a ≡ true
  unfolding held
  held_where b y e s = rw (e, s)

-- Items that say only what S holds.
module _ {A : Type 0} (says : Holding → A → Bool) (S : A → Bool) where
  abbrev SaysOnly : Holding → Type 0
  SaysOnly y = (a : A) → says y a ≡ true → S a ≡ true

  held_only : {ys : List Holding} → Every SaysOnly ys → (a : A) → held says ys a ≡ true → S a ≡ true
  unfolding held
  held_only done a e = absurd (false≢true e)
  held_only (with {a = y} {rest = ys} p ps) a e = ⊎_elim (p a) (held_only ps a) (or_cases (says y a) (held says ys a) e)

-- The items of a template variable.
module _ (count : ℕ) (S : Summary) (plain : PlainSummary S) where
  claim_only : (b : Bool) (c : Claim) → (b ≡ true → S c ≡ true) → Every (SaysOnly says_claim S) (where_held b (claim c))
  claim_only b c h = every_where b (claim c) λ e d s. subst (λ (d' : Claim). S d' ≡ true) (says_alone c d s) (h e)

  any_only : (n h : ℕ) → S (string n h unlisted) ≡ true → SaysOnly says_claim S (any_at n h)
  any_only n h e (root m) s = absurd (false≢true s)
  any_only n h e (edge m g k) s = absurd (false≢true s)
  any_only n h e (string m k t) s =
      rw (eqb-true m n (and_left (eqb m n) (eqb k h) s), eqb-true k h (and_right (eqb m n) (eqb k h) s)) ((plain n h).every e t)
  any_only n h e (gap_from g m) s = absurd (false≢true s)
  any_only n h e (attribute_gap_from k m) s = absurd (false≢true s)

  claims_only : Every (SaysOnly says_claim S) (template_items count S)
  unfolding template_items
  claims_only =
      every_append (every_append (every_append (every_append (every_append
      (every_each (suc count) _ λ t _. claim_only (S (root t)) (root t) (λ e. e))
      (every_each (suc count) _ λ n _. every_each 8 _ λ g _. every_each (suc count) _ λ t _. claim_only (S (edge n g t)) (edge n g t) (λ e. e)))
      (every_each (suc count) _ λ n _. every_each 8 _ λ h _. every_each strings _ λ s _.
      claim_only (S (string n h s) && not (S (string n h unlisted))) (string n h s) (and_left (S (string n h s)) (not (S (string n h unlisted))))))
      (every_each (suc count) _ λ n _. every_each 8 _ λ h _. every_where (S (string n h unlisted)) (any_at n h) (any_only n h)))
      (every_each 8 _ λ g _. every_each (suc count) _ λ n _. claim_only (S (gap_from g n)) (gap_from g n) (λ e. e)))
      (every_each 8 _ λ h _. every_each (suc count) _ λ n _. claim_only (S (attribute_gap_from h n)) (attribute_gap_from h n) (λ e. e))

  -- An item of one of the six parts is an item of the variable.
  module _ (c : Claim) where
    abbrev Says : List Holding → Type 0
    Says ys = held says_claim ys c ≡ true

    in_strings : Says (root_items count S ++ edge_items count S ++ string_items count S) → Says (template_items count S)
    unfolding template_items
    in_strings e = held_before says_claim c _ _ (held_before says_claim c _ _ (held_before says_claim c _ _ e))

    in_any : Says (any_items count S) → Says (template_items count S)
    unfolding template_items
    in_any e = held_before says_claim c _ _ (held_before says_claim c _ _ (held_behind says_claim c (root_items count S ++ edge_items count S ++ string_items count S) _ e))

    in_gaps : Says (gap_items count S) → Says (template_items count S)
    unfolding template_items
    in_gaps e = held_before says_claim c _ _ (held_behind says_claim c (root_items count S ++ edge_items count S ++ string_items count S ++ any_items count S) _ e)

    in_attribute_gaps : Says (attribute_gap_items count S) → Says (template_items count S)
    unfolding template_items
    in_attribute_gaps e = held_behind says_claim c (root_items count S ++ edge_items count S ++ string_items count S ++ any_items count S ++ gap_items count S) _ e

  string_listed : (n h s : ℕ) → S (string n h s) ≡ true → n < suc count → h < 8 → (b : Bool) → S (string n h unlisted) ≡ b
      → held says_claim (template_items count S) (string n h s) ≡ true
  string_listed n h s e l l' true u =
      in_any (string n h s) (held_each says_claim _ (suc count) _ n l (held_each says_claim _ 8 _ h l'
      (held_where says_claim (string n h s) (S (string n h unlisted)) (any_at n h) u (says_any n h s))))
  string_listed n h s e l l' false u = by_name (dec_le strings s)
    where
      by_name : Dec (strings ≤ s) → held says_claim (template_items count S) (string n h s) ≡ true
      by_name (yes q) = absurd (false≢true (sym u ∙ (plain n h).one s q e))
      by_name (no q) =
          let listed : (S (string n h s) && not (S (string n h unlisted))) ≡ true = rw (e, u) in
          let low : s < strings = omega arith in
          in_strings (string n h s) (held_behind says_claim _ (root_items count S ++ edge_items count S) _
          (held_each says_claim _ (suc count) _ n l (held_each says_claim _ 8 _ h l' (held_each says_claim _ strings _ s low
          (held_where says_claim (string n h s) (S (string n h s) && not (S (string n h unlisted))) (claim (string n h s)) listed (says_itself (string n h s)))))))

  claims_all : (c : Claim) → S c ≡ true → claim_fits count c ≡ true → held says_claim (template_items count S) c ≡ true
  claims_all (root t) e f =
      let l = leb-true t count (and_left (leb t count) true f) in
      let low : t < suc count = omega arith in
      in_strings (root t) (held_before says_claim _ _ _ (held_before says_claim _ _ _
      (held_each says_claim _ (suc count) _ t low (held_where says_claim (root t) (S (root t)) (claim (root t)) e (says_itself (root t))))))
  claims_all (edge n g t) e f =
      let there = and_left (leb n count && leb t count) (ltb g 8) f in
      let l = leb-true n count (and_left (leb n count) (leb t count) there) in
      let l' = leb-true t count (and_right (leb n count) (leb t count) there) in
      let g_low = ltb-true g 8 (and_right (leb n count && leb t count) (ltb g 8) f) in
      let n_low : n < suc count = omega arith in
      let t_low : t < suc count = omega arith in
      in_strings (edge n g t) (held_before says_claim _ _ _ (held_behind says_claim _ (root_items count S) _
      (held_each says_claim _ (suc count) _ n n_low (held_each says_claim _ 8 _ g g_low (held_each says_claim _ (suc count) _ t t_low
      (held_where says_claim (edge n g t) (S (edge n g t)) (claim (edge n g t)) e (says_itself (edge n g t))))))))
  claims_all (string n h s) e f =
      let l = leb-true n count (and_left (leb n count) (ltb h 8) f) in
      string_listed n h s e (omega arith) (ltb-true h 8 (and_right (leb n count) (ltb h 8) f)) (S (string n h unlisted)) refl
  claims_all (gap_from g n) e f =
      let l = leb-true n count (and_left (leb n count) (ltb g 8) f) in
      let n_low : n < suc count = omega arith in
      in_gaps (gap_from g n) (held_each says_claim _ 8 _ g (ltb-true g 8 (and_right (leb n count) (ltb g 8) f)) (held_each says_claim _ (suc count) _ n n_low
      (held_where says_claim (gap_from g n) (S (gap_from g n)) (claim (gap_from g n)) e (says_itself (gap_from g n)))))
  claims_all (attribute_gap_from h n) e f =
      let l = leb-true n count (and_left (leb n count) (ltb h 8) f) in
      let n_low : n < suc count = omega arith in
      in_attribute_gaps (attribute_gap_from h n) (held_each says_claim _ 8 _ h (ltb-true h 8 (and_right (leb n count) (ltb h 8) f)) (held_each says_claim _ (suc count) _ n n_low
      (held_where says_claim (attribute_gap_from h n) (S (attribute_gap_from h n)) (claim (attribute_gap_from h n)) e (says_itself (attribute_gap_from h n)))))

  claims_listed : ((c : Claim) → S c ≡ true → claim_fits count c ≡ true) → (c : Claim) → held says_claim (template_items count S) c ≡ S c
  claims_listed there c = alike (held says_claim (template_items count S) c) (S c) (held_only says_claim S claims_only c) (λ e. claims_all c e (there c e))

-- The items of a string variable.
module _ (Y : Strings) (plain : PlainStrings Y) where
  strings_only : Every (SaysOnly says_string Y) (variable_strings Y)
  unfolding variable_strings
  strings_only = every_append
      (every_each strings _ λ s _. every_where (Y s && not (Y unlisted)) (one_string s) λ e t q. rw (eqb-true t s q) (and_left (Y s) (not (Y unlisted)) e))
      (every_where (Y unlisted) any_string λ e t q. plain.every e t)

  abbrev listed_strings : ℕ → List Holding
  listed_strings t = where_held (Y t && not (Y unlisted)) (one_string t)

  strings_all : (s : ℕ) → Y s ≡ true → (b : Bool) → Y unlisted ≡ b → held says_string (variable_strings Y) s ≡ true
  unfolding variable_strings
  strings_all s e true u = held_behind says_string s (each strings listed_strings) _ (held_where says_string s (Y unlisted) any_string u refl)
  strings_all s e false u = by_name (dec_le strings s)
    where
      by_name : Dec (strings ≤ s) → held says_string (variable_strings Y) s ≡ true
      by_name (yes q) = absurd (false≢true (sym u ∙ plain.one s q e))
      by_name (no q) =
          let listed : (Y s && not (Y unlisted)) ≡ true = rw (e, u) in
          let low : s < strings = omega arith in
          held_before says_string s (each strings listed_strings) (where_held (Y unlisted) any_string)
          (held_each says_string s strings listed_strings s low (held_where says_string s (Y s && not (Y unlisted)) (one_string s) listed (eq-eqb s s refl)))

  strings_listed : (s : ℕ) → held says_string (variable_strings Y) s ≡ Y s
  strings_listed s = alike (held says_string (variable_strings Y) s) (Y s) (held_only says_string Y strings_only s) (λ e. strings_all s e (Y unlisted) refl)

-- What stands under a variable at a point.
module _ (p : ℕ) (v : Variable) where
  abbrev Elsewhere : Head → Type 0
  Elsewhere h = (eqb h.point p && same_variable h.variable v) ≡ false

  under_nothing : {hs : List Head} → Every Elsewhere hs → under hs p v ≡ []
  unfolding under
  under_nothing done = refl
  under_nothing (with e es) = rw e (under_nothing es)

  under_behind : {hs : List Head} (ks : List Head) → Every Elsewhere hs → under (hs ++ ks) p v ≡ under ks p v
  unfolding under
  under_behind ks done = refl
  under_behind ks (with e es) = rw e (under_behind ks es)

  under_before : (hs : List Head) {ks : List Head} → Every Elsewhere ks → under (hs ++ ks) p v ≡ under hs p v
  unfolding under
  under_before [] es = under_nothing es
  under_before (h ∷ hs) es = ap (cond (eqb h.point p && same_variable h.variable v) h.holdings) (under_before hs es)

  under_each : (n : ℕ) (f : ℕ → List Head) (k : ℕ) → k < n → ((j : ℕ) → j < n → (j ≡ k → ⊥) → Every Elsewhere (f j)) → under (each n f) p v ≡ under (f k) p v
  unfolding each
  under_each zero f k l h = absurd (omega arith)
  under_each (suc n) f k l h = by_last (dec_le n k) (under_each n f k)
    where
      by_last : Dec (n ≤ k) → (k < n → ((j : ℕ) → j < n → (j ≡ k → ⊥) → Every Elsewhere (f j)) → under (each n f) p v ≡ under (f k) p v) → under (each n f ++ f n) p v ≡ under (f k) p v
      by_last (yes q) r =
          let same : k ≡ n = omega arith in
          under_behind (f n) (every_each n f (λ j m. h j (omega arith) (λ e. omega arith))) ∙ ap (λ (i : ℕ). under (f i) p v) (sym same)
      by_last (no q) r = under_before (each n f) (h n (omega arith) (λ e. omega arith)) ∙ r (omega arith) (λ j m. h j (omega arith))

  headed_elsewhere : (q : ℕ) (w : Variable) (ys : List Holding) → (eqb q p && same_variable w v) ≡ false → Every Elsewhere (headed q w ys)
  headed_elsewhere q w [] e = done
  headed_elsewhere q w (y ∷ ys) e = with e done

same_variable_lem : (v : Variable) → same_variable v v ≡ true
same_variable_lem (template_variable x) = eq-eqb x x refl
same_variable_lem (string_variable y) = eq-eqb y y refl

under_headed : (p : ℕ) (v : Variable) (ys : List Holding) → under (headed p v ys) p v ≡ ys
unfolding under
under_headed p v [] = refl
under_headed p v (y ∷ ys) = rw (eq-eqb p p refl, same_variable_lem v)

-- A variable's number, and that no other number is its.
record Numbered (v : Variable) (k : ℕ) : Type 0 where
  low : k < 8
  is : variable_of k ≡ v
  alone : (j : ℕ) → j < 8 → (j ≡ k → ⊥) → same_variable (variable_of j) v ≡ false

number_template : (x : ℕ) → x < 4 → Numbered (template_variable x) x
number_template x l = record {
  low = omega arith;
  is = rw (lt-ltb x 4 l);
  alone = each_variable (λ j w. (j ≡ x → ⊥) → same_variable w (template_variable x) ≡ false) (λ x' _. ne_eqb x' x) (λ y _ _. refl);
}

number_string : (y : ℕ) → y < 4 → Numbered (string_variable y) (4 + y)
number_string y l =
    let back : 4 + y - 4 ≡ y = omega arith in
    record {
      low = omega arith;
      is = rw (le-ltb (4 + y) 4 (omega arith), back);
      alone = each_variable (λ j w. (j ≡ 4 + y → ⊥) → same_variable w (string_variable y) ≡ false) (λ x _ _. refl) (λ y' _ n. ne_eqb y' y (λ e. n (omega arith)));
    }

module _ (count points : ℕ) (E : ℕ → Environment) where
  abbrev heads_of : ℕ → ℕ → List Head
  heads_of p v = headed p (variable_of v) (items_of count (E p) (variable_of v))

  under_proposal : (p : ℕ) → p < points → (v : Variable) (k : ℕ) → Numbered v k → under (proposal_of count points E) p v ≡ items_of count (E p) v
  unfolding proposal_of
  under_proposal p l v k n =
      let here : under (heads_of p k) p v ≡ items_of count (E p) v = rw n.is (under_headed p v (items_of count (E p) v)) in
      under_each p v points (λ q. each 8 (heads_of q)) p l
      (λ q _ other. every_each 8 (heads_of q) λ j _. headed_elsewhere p v q (variable_of j) (items_of count (E q) (variable_of j)) (rw (ne_eqb q p other)))
      ∙ under_each p v 8 (heads_of p) k n.low
      (λ j m other. headed_elsewhere p v p (variable_of j) (items_of count (E p) (variable_of j)) (rw (eq-eqb p p refl) (n.alone j m other)))
      ∙ here

  -- Where the proposal has no head: past the points, and of other variables.
  under_past : (p : ℕ) → points ≤ p → (v : Variable) → under (proposal_of count points E) p v ≡ []
  unfolding proposal_of
  under_past p l v = under_nothing p v
      (every_each points (λ q. each 8 (heads_of q)) λ q m. every_each 8 (heads_of q) λ j _.
      headed_elsewhere p v q (variable_of j) (items_of count (E q) (variable_of j)) (rw (ne_eqb q p (λ e. omega arith))))

  under_other : (p : ℕ) (v : Variable) → ((j : ℕ) → j < 8 → same_variable (variable_of j) v ≡ false) → under (proposal_of count points E) p v ≡ []
  unfolding proposal_of
  under_other p v other = under_nothing p v
      (every_each points (λ q. each 8 (heads_of q)) λ q _. every_each 8 (heads_of q) λ j m.
      headed_elsewhere p v q (variable_of j) (items_of count (E q) (variable_of j)) (rw (other j m) (and-false (eqb q p))))

  -- Nothing is said where nothing is held.
  nothing_listed : {A : Type 0} (says : Holding → A → Bool) (S : A → Bool) (a : A) (p : ℕ) (v : Variable) → under (proposal_of count points E) p v ≡ []
      → (S a ≡ true → ⊥) → held says (under (proposal_of count points E) p v) a ≡ S a
  unfolding held
  nothing_listed says S a p v e n = rw (e, refuted (S a) n)

  module _ (there : OnlyThere count points E) (plain : Plain E) where
    template_entry : (p x : ℕ) (c : Claim) → Dec (points ≤ p) → Dec (4 ≤ x) → (entries (proposal_of count points E) p).template x c ≡ (E p).template x c
    unfolding entries
    template_entry p x c (yes l) d =
        nothing_listed says_claim ((E p).template x) c p (template_variable x) (under_past p l (template_variable x)) (λ e. omega (arith, (there.template p x c e).0))
    template_entry p x c (no l) (yes l') =
        nothing_listed says_claim ((E p).template x) c p (template_variable x)
        (under_other p (template_variable x) (each_variable (λ j w. same_variable w (template_variable x) ≡ false) (λ x' m. ne_eqb x' x (λ e. omega arith)) (λ y _. refl)))
        (λ e. omega (arith, (there.template p x c e).1))
    template_entry p x c (no l) (no l') =
        rw (under_proposal p (omega arith) (template_variable x) x (number_template x (omega arith)))
        (claims_listed count ((E p).template x) (plain.template p x) (λ d e. (there.template p x d e).2) c)

    string_entry : (p y s : ℕ) → Dec (points ≤ p) → Dec (4 ≤ y) → (entries (proposal_of count points E) p).string y s ≡ (E p).string y s
    unfolding entries
    string_entry p y s (yes l) d =
        nothing_listed says_string ((E p).string y) s p (string_variable y) (under_past p l (string_variable y)) (λ e. omega (arith, (there.string p y s e).0))
    string_entry p y s (no l) (yes l') =
        nothing_listed says_string ((E p).string y) s p (string_variable y)
        (under_other p (string_variable y) (each_variable (λ j w. same_variable w (string_variable y) ≡ false) (λ x _. refl) (λ y' m. ne_eqb y' y (λ e. omega arith))))
        (λ e. omega (arith, (there.string p y s e).1))
    string_entry p y s (no l) (no l') =
        rw (under_proposal p (omega arith) (string_variable y) (4 + y) (number_string y (omega arith))) (strings_listed ((E p).string y) (plain.string p y) s)

    pub listed_same : (p : ℕ) → Alike (entries (proposal_of count points E) p) (E p)
    listed_same p = record {
      template = λ x c. template_entry p x c (dec_le points p) (dec_le 4 x);
      string = λ y s. string_entry p y s (dec_le points p) (dec_le 4 y);
    }
