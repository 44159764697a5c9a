-- In which templates each element stands, as a table of a word for each element: a set that has every template in which it stands, at any
-- depth. A clause whose element stands in no template that is reached need not be looked at.
use Rattle.std.specs.Prelude.{ℕ, ◌≤◌, ◌<◌, ◌≡◌, List, true, length, get_or}
use Rattle.sets.specs.Sets.{member}
use Rattle.pages.specs.Items.{Attribute, Item, text, blank, gap, element, Items, none, more}
use Rattle.programs.specs.Program.{template_at}

-- Every element of the items, or of the item, at any depth, is as P says.
unfoldable mutual
  pub AllElements : (ℕ → ℕ → List Attribute → Items → Type 0) → Items → Type 0
  AllElements P none = Unit {0}
  AllElements P (more i φ) = AllElementsOf P i × AllElements P φ

  pub AllElementsOf : (ℕ → ℕ → List Attribute → Items → Type 0) → Item → Type 0
  AllElementsOf P text = Unit {0}
  AllElementsOf P blank = Unit {0}
  AllElementsOf P (gap g) = Unit {0}
  AllElementsOf P (element e mark δ φ) = P e mark δ φ × AllElements P φ

-- The table tells that element e stands in template n.
pub record Stands (table : List ℕ) (n e : ℕ) : Type 0 where
  pub low : e < 64
  pub stands : member (get_or table e 0) n ≡ true

-- It tells this of all elements of the items.
abbrev pub AllTold : List ℕ → ℕ → Items → Type 0
AllTold table n φ = AllElements (λ e mark δ χ. Stands table n e) φ

-- The second table tells what the first one does.
abbrev pub Keeps : List ℕ → List ℕ → Type 0
Keeps table larger = (n e : ℕ) → Stands table n e → Stands larger n e

-- The table tells of every element of every template.
abbrev pub Occurrences : List Items → List ℕ → Type 0
Occurrences φs table = (n : ℕ) → n ≤ length φs → AllTold table n (template_at φs n)
