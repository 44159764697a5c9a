-- What is in range is written in bytes: no number is 256 or more.
use Prim.Native.Nat.{ℕ, zero, suc, ◌+◌, ◌%◌, ◌^◌, ◌≤◌, ◌<◌}
use native.Mathlib.Nat.{mod-lt, div-lt_iff_lt-mul, one-le-pow, pow-succ', zero-lt-suc}
use native.Mathlib.Omega.{arith}
use mathlib.Core.List.{List, [], ◌∷◌, ◌++◌}
use mathlib.Core.Path.{◌≡◌}
use mathlib.Core.Bool.{Bool, true, false, cond, ◌&&◌, and-eq-true_iff}
use borrow.Author.Tests.{ltb-true}
use lib.Dec.{ltb}
use Rattle.vocabularies.specs.Vocabulary.{Formula, conj, disj, neg, truth, attr, content, order, value, Rule, Vocabulary}
use Rattle.pages.specs.Items.{Value, string, open_gap, Attribute, Item, text, blank, gap, element, Items, none, more}
use Rattle.pages.specs.declared.Kind.{Kind}
use Rattle.pages.specs.declared.Kind.TheVariants.{Template, Page}
use Rattle.round_trip.specs.Written.{highest_first, written_formula, written_numbers, written_clauses, written_rules, written_vocabulary, written_value, written_attributes, written_items, written_item, written_page}
use Rattle.round_trip.specs.InRange.{Bytes, Rising, NamesInRange, ClausesInRange, RulesInRange, VocabularyInRange, ValueInRange, AttributesInRange, GapInRange, ItemsInRange, ItemInRange, PageInRange}
use Rattle.round_trip.proofs.Vocabularies.{declared_in_range}

-- That numbers are bytes, by computation.
abbrev pub all_bytes : List ℕ → Bool
all_bytes [] = true
all_bytes (b ∷ w) = ltb b 256 && all_bytes w

pub are_bytes_lem : (w : List ℕ) → all_bytes w ≡ true → Bytes w
unfolding Bytes
are_bytes_lem [] e = tt
are_bytes_lem (b ∷ w) e = let i = (and-eq-true_iff (ltb b 256) (all_bytes w)).0 e in (ltb-true b 256 i.0, are_bytes_lem w i.1)

pub both : (u v : List ℕ) → Bytes u → Bytes v → Bytes (u ++ v)
unfolding Bytes
both [] v p q = q
both (b ∷ u) v p q = (p.0, both u v p.1 q)

highest_first_bytes : (n m : ℕ) → m < 256 ^ n → Bytes (highest_first n m)
unfolding Bytes highest_first
highest_first_bytes zero m h = tt
highest_first_bytes (suc n) m h =
    let pos : 0 < 256 ^ n = one-le-pow n 256 (zero-lt-suc 255) in
    ((div-lt_iff_lt-mul pos).1 (rw pow-succ' at h), highest_first_bytes n (m % 256 ^ n) (mod-lt m pos))

formula_bytes : (ψ : Formula) → NamesInRange ψ → Bytes (written_formula ψ)
unfolding Bytes written_formula NamesInRange
formula_bytes (conj ψ₁ ψ₂) i = (omega arith, both (written_formula ψ₁) (written_formula ψ₂) (formula_bytes ψ₁ i.0) (formula_bytes ψ₂ i.1))
formula_bytes (disj ψ₁ ψ₂) i = (omega arith, both (written_formula ψ₁) (written_formula ψ₂) (formula_bytes ψ₁ i.0) (formula_bytes ψ₂ i.1))
formula_bytes (neg ψ) i = (omega arith, formula_bytes ψ i)
formula_bytes truth i = omega arith
formula_bytes (attr a) i = omega arith
formula_bytes (content c) i = omega arith
formula_bytes (order c d) i = omega arith
formula_bytes (value a m) i = (omega arith, (omega arith, highest_first_bytes 8 m i.2))

numbers_bytes : (c least most : ℕ) (ns : List ℕ) → c < 256 → most < 256 → Rising least most ns → Bytes (written_numbers c ns)
unfolding Bytes written_numbers Rising
numbers_bytes c least most [] h l i = tt
numbers_bytes c least most (n ∷ ns) h l i = (h, (omega arith, numbers_bytes c (n + 1) most ns h l i.2))

clauses_bytes : (ψs : List Formula) → ClausesInRange ψs → Bytes (written_clauses ψs)
unfolding Bytes written_clauses ClausesInRange
clauses_bytes [] i = tt
clauses_bytes (ψ ∷ ψs) i = (omega arith, both (written_formula ψ) (written_clauses ψs) (formula_bytes ψ i.0.names) (clauses_bytes ψs i.1))

rules_bytes : (ds : List Rule) → RulesInRange ds → Bytes (written_rules ds)
unfolding Bytes written_rules RulesInRange
rules_bytes [] i = tt
rules_bytes (d ∷ ds) i =
    let u = written_numbers 0x02 d.attributes in
    let v = written_numbers 0x03 d.contents in
    let uv = both u v (numbers_bytes 0x02 0 31 d.attributes (omega arith) (omega arith) i.0.attributes) (numbers_bytes 0x03 0 63 d.contents (omega arith) (omega arith) i.0.contents) in
    let body = both (u ++ v) (written_clauses d.clauses) uv (clauses_bytes d.clauses i.0.clauses) in
    (omega arith, (omega (arith, i.0.element), both (u ++ v ++ written_clauses d.clauses) (written_rules ds) body (rules_bytes ds i.1)))

pub vocabulary_bytes : (D : Vocabulary) → VocabularyInRange D → Bytes (written_vocabulary D)
unfolding Bytes written_vocabulary
vocabulary_bytes D i =
    both (written_rules D.rules) (0x05 ∷ D.root ∷ []) (rules_bytes D.rules i.rules) (omega (arith, declared_in_range D.rules D.root i.rules i.root))

string_bytes : (a s : ℕ) → (a ≤ 31) × (s ≤ 64) → (b : Bool) → Bytes (cond b (0x24 ∷ a ∷ s ∷ []) (0x28 ∷ a ∷ []))
unfolding Bytes
string_bytes a s h true = omega arith
string_bytes a s h false = omega arith

value_bytes : (k : Kind) (a : ℕ) (v : Value) → a ≤ 31 → ValueInRange k v → Bytes (written_value a v)
unfolding Bytes
value_bytes Template a (string s) h i = string_bytes a s (omega arith) (ltb s 64)
value_bytes Template a (open_gap g) h i = omega arith
value_bytes Page a (string s) h i = string_bytes a s (omega arith) (ltb s 64)
value_bytes Page a (open_gap g) h i = absurd i

module _ (k : Kind) where
  attributes_bytes : (δ : List Attribute) → AttributesInRange k δ → Bytes (written_attributes δ)
  unfolding Bytes written_attributes AttributesInRange
  attributes_bytes [] i = tt
  attributes_bytes (a ∷ δ) i = both (written_value a.name a.value) (written_attributes δ) (value_bytes k a.name a.value i.0 i.1) (attributes_bytes δ i.2)

gap_bytes : (k : Kind) (g : ℕ) → GapInRange k g → Bytes (0x22 ∷ g ∷ [])
unfolding Bytes
gap_bytes Template g i = omega arith
gap_bytes Page g i = absurd i

module _ (k : Kind) (ruled : ℕ → Bool) where
  mutual
    unfolding Bytes written_items ItemsInRange

    pub items_bytes : (φ : Items) → ItemsInRange k ruled φ → Bytes (written_items φ)
    items_bytes none i = tt
    items_bytes (more j φ) i = both (written_item j) (written_items φ) (item_bytes_lem j i.0) (items_bytes φ i.1)

    item_bytes_lem : (j : Item) → ItemInRange k ruled j → Bytes (written_item j)
    item_bytes_lem text i = omega arith
    item_bytes_lem blank i = omega arith
    item_bytes_lem (gap g) i = gap_bytes k g i
    item_bytes_lem (element e mark δ φ) i =
        let u = written_attributes δ in
        let v = written_items φ in
        (omega arith, (omega (arith, i.0), both (u ++ v) (0x26 ∷ []) (both u v (attributes_bytes k δ i.2) (items_bytes φ i.4)) (omega arith)))

pub page_bytes : (D : Vocabulary) (φ : Items) → PageInRange D φ → Bytes (written_page φ)
unfolding Bytes written_page
page_bytes D φ i = both (written_items φ) (0x27 ∷ []) (items_bytes Page _ φ i.items) (omega arith)
