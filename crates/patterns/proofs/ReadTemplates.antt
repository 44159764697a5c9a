-- Templates that were read have elements in range, each with a rule, and no attribute twice in one element.
use Prim.Native.Nat.{ℕ, zero, suc, ◌+◌, ◌<◌}
use native.Mathlib.Omega.{arith}
use mathlib.Core.Path.{◌≡◌, sym, subst, ◌∙◌}
use mathlib.Core.List.{List, [], ◌∷◌}
use mathlib.Core.Bool.{Bool, true, false, cond, true≢false}
use mathlib.Core.Logic.{inl, inr, ⊎_elim}
use lib.Dec.{eqb, leb, ltb}
use borrow.Author.Tests.{eqb-true, leb-true}
use Rattle.commands.specs.declared.Context.TheVariants.{Templates}
use Rattle.commands.specs.declared.Context.{Context}
use Rattle.commands.specs.Commands.{byte, allowed, operands_of, in_range, all_in_range}
use Rattle.commands.specs.Commands as Commands
use Rattle.vocabularies.specs.Vocabulary.{is_in, Distinct}
use Rattle.pages.specs.declared.Kind.{Kind}
use Rattle.pages.specs.declared.Kind.TheVariants.{Template}
use Rattle.pages.specs.Items.{Value, Attribute, Item, text, blank, gap, element, Items, none, more}
use Rattle.pages.specs.RightPages.{names, SomeElement, SomeElementOf}
use Rattle.pages.specs.ItemReading.{attribute_context, value_at, item_context, nesting, attributes, end_of, leaf_at, items, item, most_templates, templates}
use Rattle.programs.specs.Program.{template_at}
use Rattle.agreement.proofs.Readings.{Gives, gives, refuses, runs_out, gives_when, gives_then, gives_map}
use Rattle.patterns.specs.Inner.Given.{contents, SoundTemplates}
use Rattle.sets.proofs.Booleans.{or_left, or_cases, or_neither, and_left, and_right, refuted}
use Rattle.patterns.proofs.Tests.{eqb_same}
use Rattle.patterns.proofs.Ranges.{Ranged, ranges_of, gives_ranged}

-- What each element that was read has: a name in range, a rule, and no attribute twice.
record ElementSound (ruled : ℕ → Bool) (e : ℕ) (δ : List Attribute) : Type 0 where
  is_in_range : e < contents
  has_rule : ruled e ≡ true
  once : Distinct (names δ)

unfoldable mutual
  ItemsSound : (ℕ → Bool) → Items → Type 0
  ItemsSound ruled none = Unit {0}
  ItemsSound ruled (more i φ) = ItemSound ruled i × ItemsSound ruled φ

  ItemSound : (ℕ → Bool) → Item → Type 0
  ItemSound ruled text = Unit {0}
  ItemSound ruled blank = Unit {0}
  ItemSound ruled (gap g) = Unit {0}
  ItemSound ruled (element e mark δ φ) = ElementSound ruled e δ × ItemsSound ruled φ

-- What follows from it for each element, follows for some element of the items.
module _ (ruled : ℕ → Bool) (P : ℕ → List Attribute → Type 0) (R : Type 0) (each : (e : ℕ) (δ : List Attribute) → ElementSound ruled e δ → P e δ → R) where
  mutual
    unfolding ItemsSound SomeElement

    some_sound : (φ : Items) → ItemsSound ruled φ → SomeElement (λ e mark δ χ. P e δ) φ → R
    some_sound none u s = absurd s
    some_sound (more i φ) (h, k) (inl s) = some_sound_of i h s
    some_sound (more i φ) (h, k) (inr s) = some_sound φ k s

    some_sound_of : (i : Item) → ItemSound ruled i → SomeElementOf (λ e mark δ χ. P e δ) i → R
    some_sound_of text u s = absurd s
    some_sound_of blank u s = absurd s
    some_sound_of (gap g) u s = absurd s
    some_sound_of (element e mark δ φ) (h, k) (inl s) = each e δ h s
    some_sound_of (element e mark δ φ) (h, k) (inr s) = some_sound φ k s

-- Attributes none of which was named before, nor stands twice.
abbrev Apart : List ℕ → List Attribute → Type 0
Apart before δ = Distinct (names δ) × ((c : ℕ) → is_in c (names δ) ≡ true → is_in c before ≡ false)

none_apart : (before : List ℕ) → Apart before []
unfolding Distinct is_in
none_apart before = (tt, λ c e. absurd (true≢false (sym e)))

one_apart : (a : ℕ) (v : Value) (before : List ℕ) (δ : List Attribute) → is_in a before ≡ false → Apart (a ∷ before) δ → Apart before (record { name = a; value = v } ∷ δ)
unfolding Distinct is_in
one_apart a v before δ fresh (once, apart) = (
  (refuted (is_in a (names δ)) (λ t. true≢false (sym (or_left (eqb a a) (is_in a before) (eqb_same a)) ∙ apart a t)), once),
  λ c e. ⊎_elim
      (λ q. subst (λ (k : ℕ). is_in k before ≡ false) (sym (eqb-true c a q)) fresh)
      (λ q. (or_neither (eqb c a) (is_in c before) (apart c q)).1)
      (or_cases (eqb c a) (is_in c (names δ)) e),
)

attributes_apart : (k : Kind) (s : List ℕ) (f : ℕ) (before : List ℕ) (at : ℕ) → Gives (Unit {0}) (λ δ end. Apart before δ) (attributes f k s before at)
unfolding attributes
attributes_apart k s zero before at = runs_out tt
attributes_apart k s (suc f) before at = gives_when (allowed (attribute_context k) (byte s at))
    (λ _ _. gives_ranged (attribute_context k) s at λ code next t. gives_when (is_in (byte s (at + 1)) before)
    (λ _ _. refuses)
    (λ _ fresh. gives_then (attributes_apart k s f (byte s (at + 1) ∷ before) next) λ δ end apart.
    gives (one_apart (byte s (at + 1)) (value_at s at code) before δ fresh apart)))
    (λ _ _. gives (none_apart before))

leaf_sound : (ruled : ℕ → Bool) (s : List ℕ) (at code : ℕ) → ItemSound ruled (leaf_at s at code)
unfolding ItemsSound
leaf_sound ruled s at code = cases (eqb code 0x21) (eqb code 0x29)
  where
    cases : (a b : Bool) → ItemSound ruled (cond a text (cond b blank (gap (byte s (at + 1)))))
    cases true b = tt
    cases false true = tt
    cases false false = tt

-- `23 e` has an element, 63 at most.
element_ranged : (x : Context) (s : List ℕ) (at code : ℕ) → Ranged x s at code → eqb code 0x23 ≡ true → byte s (at + 1) < contents
unfolding operands_of all_in_range in_range
element_ranged x s at code t e =
    let most : leb (byte s (at + 1)) 63 ≡ true = and_right (leb 1 (byte s (at + 1))) (leb (byte s (at + 1)) 63)
    (and_left (in_range Commands.element s (at + 1)) true (ranges_of t 0x23 (eqb-true code 0x23 e))) in
    omega (arith, leb-true)

module _ (k : Kind) (ruled : ℕ → Bool) (s : List ℕ) where
  mutual
    unfolding items ItemsSound

    items_sound : (f depth at : ℕ) → Gives (Unit {0}) (λ φ end. ItemsSound ruled φ) (items f k ruled s depth at)
    items_sound zero depth at = runs_out tt
    items_sound (suc f) depth at = gives_when (eqb (byte s at) (end_of depth))
        (λ _ _. gives tt)
        (λ _ _. gives_then (item_sound f depth at) λ i next m. gives_then (items_sound f depth next) λ φ end n. gives (m, n))

    item_sound : (f depth at : ℕ) → Gives (Unit {0}) (λ i end. ItemSound ruled i) (item f k ruled s depth at)
    item_sound zero depth at = runs_out tt
    item_sound (suc f) depth at = gives_ranged (item_context k) s at λ code next t. gives_when (eqb code 0x23)
        (λ _ e. gives_when (ruled (byte s (at + 1)))
        (λ _ has. gives_when (ltb depth (nesting k))
        (λ _ _. gives_then (attributes_apart k s f [] next) λ δ inside apart. gives_then (items_sound f (depth + 1) inside) λ φ end n.
        gives (record { is_in_range = element_ranged (item_context k) s at code t e; has_rule = has; once = apart.0 }, n))
        (λ _ _. refuses))
        (λ _ _. refuses))
        (λ _ _. gives (leaf_sound ruled s at code))

AllSound : (ℕ → Bool) → List Items → Type 0
AllSound ruled φs = (n : ℕ) → ItemsSound ruled (template_at φs n)

no_templates : (ruled : ℕ → Bool) → AllSound ruled []
unfolding AllSound ItemsSound template_at
no_templates ruled n = tt

more_templates : (ruled : ℕ → Bool) (φ : Items) (φs : List Items) → ItemsSound ruled φ → AllSound ruled φs → AllSound ruled (φ ∷ φs)
unfolding AllSound ItemsSound template_at
more_templates ruled φ φs h k zero = tt
more_templates ruled φ φs h k (suc zero) = h
more_templates ruled φ φs h k (suc (suc n)) = k (suc n)

all_sound : (ruled : ℕ → Bool) (s : List ℕ) (f count at : ℕ) → Gives (Unit {0}) (λ φs end. AllSound ruled φs) (templates f ruled s count at)
unfolding templates
all_sound ruled s zero count at = runs_out tt
all_sound ruled s (suc f) count at = gives_ranged Templates s at λ code next t. gives_when (eqb code 0x2F)
    (λ _ _. gives (no_templates ruled))
    (λ _ _. gives_when (ltb count most_templates)
    (λ _ _. gives_then (items_sound Template ruled s f 0 next) λ φ after m. gives_then (all_sound ruled s f (count + 1) after) λ φs end n.
    gives (more_templates ruled φ φs m n))
    (λ _ _. refuses))

pub templates_sound : (ruled : ℕ → Bool) (s : List ℕ) (f count at : ℕ) → Gives (Unit {0}) (λ φs end. SoundTemplates ruled φs) (templates f ruled s count at)
unfolding AllSound
templates_sound ruled s f count at = gives_map (λ φs end all. record {
  is_in_range = λ n c. some_sound ruled (λ e δ. e ≡ c) (c < contents) (λ e δ h q. rw (sym q) h.is_in_range) (template_at φs n) (all n);
  have_rules = λ n c. some_sound ruled (λ e δ. e ≡ c) (ruled c ≡ true) (λ e δ h q. rw (sym q) h.has_rule) (template_at φs n) (all n);
  once = λ n δ. some_sound ruled (λ e ε. ε ≡ δ) (Distinct (names δ)) (λ e ε h q. subst (λ (ζ : List Attribute). Distinct (names ζ)) q h.once) (template_at φs n) (all n);
})
    (all_sound ruled s f count at)
