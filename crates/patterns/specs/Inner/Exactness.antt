-- What it means that a table is exact: it tells what the pages derived (source 000, section 3) have, no less and no more. Nothing
-- here computes.
use Rattle.std.specs.Prelude.{ℕ, ◌≤◌, ◌≡◌, List, true, ◌↔◌, length}
use Rattle.vocabularies.specs.Vocabulary.{is_in}
use Rattle.pages.specs.Items.{Items}
use Rattle.pages.specs.RightPages.{word}
use Rattle.programs.specs.Program.{template_at}
use Rattle.summaries.specs.Summaries.{Summary}
use Rattle.summaries.specs.Languages.{Derives}
use Rattle.patterns.specs.Inner.Morphisms.{Morphism}
use Rattle.patterns.specs.Inner.Rounds.{Set, Sets}
use Rattle.patterns.specs.Inner.Reached.{Yields, Reached}

module _ (φs : List Items) (G : Summary) where
  module _ (R : Morphism) where
    -- Some page derived from items of template n has pattern x.
    abbrev pub Derivable : ℕ → Items → ℕ → Type 0
    Derivable n φ x = (page : Items) × Derives φs G n φ page × (R.of (word page) ≡ x)

    abbrev pub Exact : Sets → Type 0
    Exact X = (n x : ℕ) → n ≤ length φs → X n x ≡ true ↔ Derivable n (template_at φs n) x

  -- Content c stands in some page derived from items of template n.
  abbrev pub Occurs : ℕ → Items → ℕ → Type 0
  Occurs n φ c = (page : Items) × Derives φs G n φ page × (is_in c (word page) ≡ true)

  abbrev pub ContentsExact : Sets → Type 0
  ContentsExact C = (n c : ℕ) → n ≤ length φs → C n c ≡ true ↔ Occurs n (template_at φs n) c

  abbrev pub YieldsExact : Set → Type 0
  YieldsExact Y = (n : ℕ) → n ≤ length φs → Y n ≡ true ↔ Yields φs G n

  abbrev pub ReachedExact : Set → Type 0
  ReachedExact S = (n : ℕ) → n ≤ length φs → S n ≡ true ↔ Reached φs G n
