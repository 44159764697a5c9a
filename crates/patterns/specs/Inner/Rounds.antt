-- Pattern sets in rounds (document 01, "An exact check needs .."; document 02, F-10): all sets empty, and in each round every template's set is worked out from all sets of
-- the round before, until a round changes nothing. A set tells the patterns of the outer items of the pages that come of a template;
-- there is none while a gap or an attribute gap inside, at any depth, has nothing to take.
use Rattle.std.specs.Prelude.{ℕ, zero, suc, ◌≤◌, ◌<◌, ◌≡◌, List, [], ◌∷◌, Bool, true, false, ◌&&◌, ◌||◌, length, eqb}
use Rattle.std.proofs.Math.Option.{some}
use Rattle.std.proofs.Math.Option as Option
use Rattle.commands.specs.Commands.{strings}
use Rattle.pages.specs.Items.{Value, string, open_gap, Attribute, Item, text, blank, gap, element, Items, none, more}
use Rattle.programs.specs.Program.{template_at}
use Rattle.summaries.specs.Proposal.{edge}
use Rattle.summaries.specs.Summaries.{Summary}
use Rattle.summaries.specs.Languages.{takes}
use Rattle.patterns.specs.Inner.Morphisms.{Morphism}

-- A set of patterns, and one for each template.
abbrev pub Set : Type 0
Set = ℕ → Bool

abbrev pub Sets : Type 0
Sets = ℕ → Set

abbrev pub only : ℕ → Set
only x y = eqb y x

unfoldable pub any_below : ℕ → (ℕ → Bool) → Bool
any_below zero p = false
any_below (suc n) p = p n || any_below n p

unfoldable pub iterate : {A : Type 0} → (A → A) → A → ℕ → A
iterate f a zero = a
iterate f a (suc t) = f (iterate f a t)

-- Some template is as p says; there are as many as are listed, and template 0.
abbrev pub any_template : List Items → (ℕ → Bool) → Bool
any_template φs p = any_below (suc (length φs)) p

-- Some string is as p says, for a p that does not tell apart the strings outside the named ones: the least of these stands for all.
abbrev pub any_named : (ℕ → Bool) → Bool
any_named p = any_below (suc strings) p

-- Some string reaches an attribute of template n: it holds one, or its gap has one to take.
abbrev pub string_reaches : Summary → ℕ → Value → Bool
string_reaches G n (string s) = true
string_reaches G n (open_gap h) = any_named (λ s. takes G n h (some s))

-- An attribute of template n holds a string, or its gap has something to take: a string, or absence (document 02, F-5).
abbrev pub value_takes : Summary → ℕ → Value → Bool
value_takes G n (string s) = true
value_takes G n (open_gap h) = takes G n h Option.none || string_reaches G n (open_gap h)

unfoldable pub attributes_take : Summary → ℕ → List Attribute → Bool
unfolding any_below
attributes_take G n [] = true
attributes_take G n (a ∷ δ) = value_takes G n a.value && attributes_take G n δ

-- The patterns of a word of the one set with a word of the other after it.
abbrev pub product : Morphism → Set → Set → Set
product R A B z = any_below R.size (λ x. A x && any_below R.size (λ y. B y && only (R.op x y) z))

module _ (φs : List Items) (G : Summary) (R : Morphism) where
  -- A gap of template n has some edge to a template whose set is not empty.
  abbrev pub gap_takes : Sets → ℕ → ℕ → Bool
  gap_takes X n g = any_template φs (λ m. G (edge n g m) && any_below R.size (X m))

  -- Every gap and attribute gap of items of template n, at any depth, has something to take.
  unfoldable mutual
    unfolding any_below attributes_take

    pub all_take : Sets → ℕ → Items → Bool
    all_take X n none = true
    all_take X n (more i φ) = item_takes X n i && all_take X n φ

    pub item_takes : Sets → ℕ → Item → Bool
    item_takes X n text = true
    item_takes X n blank = true
    item_takes X n (gap g) = gap_takes X n g
    item_takes X n (element e mark δ φ) = attributes_take G n δ && all_take X n φ

  -- The patterns of items of template n, from the sets of all templates.
  unfoldable mutual
    unfolding any_below attributes_take all_take

    pub patterns : Sets → ℕ → Items → Set
    patterns X n none = only (R.of [])
    patterns X n (more i φ) = product R (item_patterns X n i) (patterns X n φ)

    pub item_patterns : Sets → ℕ → Item → Set
    item_patterns X n text = only (R.of (0 ∷ []))
    item_patterns X n blank = only (R.of [])
    item_patterns X n (gap g) = λ x. any_template φs (λ m. G (edge n g m) && X m x)
    item_patterns X n (element e mark δ φ) = λ x. attributes_take G n δ && all_take X n φ && only (R.of (e ∷ [])) x

  unfoldable pub round : Sets → Sets
  unfolding patterns
  round X n = patterns X n (template_at φs n)

  unfoldable pub rounds : ℕ → Sets
  unfolding round iterate
  rounds t = iterate round (λ n x. false) t

  -- A round changes nothing.
  abbrev pub Settled : Sets → Type 0
  Settled X = (n x : ℕ) → n ≤ length φs → x < R.size → round X n x ≡ X n x
