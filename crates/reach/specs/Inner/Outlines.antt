-- The outline of a list of items: the contents that stand among its outer items, and the gaps there. With the contents that each gap
-- can bring, it tells the contents that can stand there (patterns, `contents_of`).
use Rattle.std.specs.Prelude.{ℕ, ◌≡◌, Bool, false, ◌||◌, eqb}
use Rattle.sets.specs.Sets.{member}
use Rattle.vocabularies.specs.Vocabulary.{is_in}
use Rattle.pages.specs.Items.{Item, text, blank, gap, element, Items, none, more}
use Rattle.pages.specs.RightPages.{word}
use Rattle.pages.specs.Inner.Gaps.{has_gap}

abbrev pub is_gap : Item → ℕ → Bool
is_gap text g = false
is_gap blank g = false
is_gap (gap k) g = eqb k g
is_gap (element e mark δ φ) g = false

-- Gap g stands among the outer items.
unfoldable pub gap_among : Items → ℕ → Bool
gap_among none g = false
gap_among (more i φ) g = is_gap i g || gap_among φ g

-- The outline as sets: contents 0 to 63, gaps 0 to 7.
pub record Outline (φ : Items) (inside gaps_in : ℕ) : Type 0 where
  pub contents : (c : ℕ) → member inside c ≡ is_in c (word φ)
  pub gaps : (g : ℕ) → gap_among φ g ≡ has_gap gaps_in g
