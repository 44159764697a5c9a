-- Words and attributes one after the other: which contents stand in them, which attributes are carried, which pairs and which sets of
-- strings are broken.
use Prim.Native.Nat.{ℕ}
use mathlib.Core.Path.{◌≡◌, refl, sym, ap, ◌∙◌}
use mathlib.Core.List.{List, [], ◌∷◌, ◌++◌, map-append}
use mathlib.Core.Bool.{Bool, true, false, not, ◌&&◌, ◌||◌, or-false, or_assoc}
use lib.Dec.{eqb}
use borrow.Author.Tests.{eqb-true, eq-eqb}
use Rattle.vocabularies.specs.Vocabulary.{is_in, Distinct}
use Rattle.pages.specs.Items.{Attribute, Item, text, blank, gap, element, Items, none, more, ◌⋈◌}
use Rattle.pages.specs.RightPages.{names, word, word_item}
use Rattle.judging.specs.Inner.Judgement.{precedes, holds_value, has_string}
use Rattle.patterns.specs.Inner.Patterns.{breaks_value}
use Rattle.sets.proofs.Booleans.{or_neither}
use Rattle.patterns.proofs.Tests.{eqb_sym}

pub in_append : (c : ℕ) (u v : List ℕ) → is_in c (u ++ v) ≡ (is_in c u || is_in c v)
unfolding is_in
in_append c [] v = refl
in_append c (x ∷ u) v = rw (in_append c u v) (sym (or_assoc (eqb c x) (is_in c u) (is_in c v)))

-- In two words a pair is broken in the one, or in the other, or across.
pub precedes_append : (u v : List ℕ) (d c : ℕ) → precedes (u ++ v) d c ≡ (precedes u d c || precedes v d c || (is_in d u && is_in c v))
unfolding is_in precedes
precedes_append [] v d c = sym (or-false (precedes v d c))
precedes_append (x ∷ u) v d c = rw (precedes_append u v d c, in_append c u v, eqb_sym d x)
    (regroup (eqb x d) (is_in c u) (is_in c v) (precedes u d c) (precedes v d c) (is_in d u))
  where
    regroup : (p q r s t o : Bool) → ((p && (q || r)) || (s || t || (o && r))) ≡ (((p && q) || s) || t || ((p || o) && r))
    regroup true true r s t o = refl
    regroup true false true true t o = refl
    regroup true false true false true o = refl
    regroup true false true false false o = refl
    regroup true false false true t o = refl
    regroup true false false false true o = refl
    regroup true false false false false true = refl
    regroup true false false false false false = refl
    regroup false q r s t o = refl

pub carried_append : (δ ε : List Attribute) (a : ℕ) → is_in a (names (δ ++ ε)) ≡ (is_in a (names δ) || is_in a (names ε))
carried_append δ ε a = ap (is_in a) (map-append (λ x. x.name) δ ε) ∙ in_append a (names δ) (names ε)

pub breaks_append : (δ ε : List Attribute) (a m : ℕ) → breaks_value (δ ++ ε) a m ≡ (breaks_value δ a m || breaks_value ε a m)
unfolding breaks_value
breaks_append [] ε a m = refl
breaks_append (x ∷ δ) ε a m = rw (breaks_append δ ε a m)
    (sym (or_assoc (eqb x.name a && not (has_string x.value m)) (breaks_value δ a m) (breaks_value ε a m)))

-- An absent attribute holds no string, and breaks no set.
absent_neither : (δ : List Attribute) (a m : ℕ) → is_in a (names δ) ≡ false → (holds_value δ a m ≡ false) × (breaks_value δ a m ≡ false)
unfolding is_in holds_value breaks_value
absent_neither [] a m e = (refl, refl)
absent_neither (x ∷ δ) a m e =
    let (other, rest) = or_neither (eqb a x.name) (is_in a (names δ)) e in
    let (h, b) = absent_neither δ a m rest in
    let apart : eqb x.name a ≡ false = eqb_sym x.name a ∙ other in
    (rw (apart, h), rw (apart, b))

-- Where no attribute stands twice, one is absent or has a string of the set exactly if it does not break the set.
pub value_kept : (δ : List Attribute) (a m : ℕ) → Distinct (names δ) → (not (is_in a (names δ)) || holds_value δ a m) ≡ not (breaks_value δ a m)
unfolding Distinct is_in holds_value breaks_value
value_kept [] a m u = refl
value_kept (x ∷ δ) a m (fresh, once) = go (value_kept δ a m once) (eqb x.name a) refl
  where
    by_string : (h : Bool) → (h || false) ≡ not (not h || false)
    by_string true = refl
    by_string false = refl

    go : (not (is_in a (names δ)) || holds_value δ a m) ≡ not (breaks_value δ a m) → (b : Bool) → eqb x.name a ≡ b
        → (not (eqb a x.name || is_in a (names δ)) || ((b && has_string x.value m) || holds_value δ a m)) ≡ not ((b && not (has_string x.value m)) || breaks_value δ a m)
    go rest true e =
        let same : x.name ≡ a = eqb-true x.name a e in
        let gone : is_in a (names δ) ≡ false = rw same at fresh in
        let (h, b) = absent_neither δ a m gone in
        rw (eq-eqb a x.name (sym same), h, b) (by_string (has_string x.value m))
    go rest false e = rw (eqb_sym a x.name ∙ e) rest

word_item_lem : (i : Item) (u v : List ℕ) → word_item i (u ++ v) ≡ word_item i u ++ v
unfolding word_item
word_item_lem text u v = refl
word_item_lem blank u v = refl
word_item_lem (gap g) u v = refl
word_item_lem (element e mark δ φ) u v = refl

pub word_⋈ : (φ χ : Items) → word (φ ⋈ χ) ≡ word φ ++ word χ
unfolding ◌⋈◌ word
word_⋈ none χ = refl
word_⋈ (more i φ) χ = ap (word_item i) (word_⋈ φ χ) ∙ word_item_lem i (word φ) (word χ)
