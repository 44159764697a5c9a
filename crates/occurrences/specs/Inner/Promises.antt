-- What the code that walks over templates promises: the table of the elements in them, and the outline of each. Each promise is about
-- bytes that read.
use Rattle.std.specs.Prelude.{ℕ, ◌≤◌, ◌≡◌, List, Bool, length}
use Rattle.commands.specs.declared.Position.{Position}
use Rattle.commands.specs.Reading.{whole}
use Rattle.pages.specs.declared.Kind.TheVariants.{Template}
use Rattle.pages.specs.declared.ItemHere.TheVariants.{Element}
use Rattle.pages.specs.Items.{Item, Items, one}
use Rattle.pages.specs.ItemReading.{item, items}
use Rattle.pages.specs.Inner.Gaps.{StartsAt}
use Rattle.pages.specs.Inner.Steps.{item_here}
use Rattle.reach.specs.Inner.Outlines.{Outline}
use Rattle.reach.specs.Inner.Promises.{OutlinesTo}
use Rattle.occurrences.specs.declared.Outer.{Outer}
use Rattle.occurrences.specs.declared.Outlines.{Outlines}
use Rattle.occurrences.specs.Inner.Occurrences.{AllTold, Occurrences}

-- What is told of the element of template n that opens at an offset.
abbrev pub TellsElement : List ℕ → Position → ℕ → ℕ → Position → List ℕ → Type 0
TellsElement s start e n r table = (ruled : ℕ → Bool) (f depth at end : ℕ) (i : Item) → item f Template ruled s depth at ≡ whole i end
    → Element e start ≡ item_here s at → (r.at ≡ end) × AllTold table n (one i)

-- What is told of items of template n.
pub record ItemsTold (n : ℕ) (φ : Items) (end : ℕ) (r : Outer) (table : List ℕ) : Type 0 where
  pub ends : r.next.at ≡ end
  pub outline : Outline φ r.contents r.gaps
  pub tells : AllTold table n φ

abbrev pub TellsItems : List ℕ → ℕ → ℕ → Outer → List ℕ → Type 0
TellsItems s at n r table = (ruled : ℕ → Bool) (f depth end : ℕ) (φ : Items) → items f Template ruled s depth at ≡ whole φ end → ItemsTold n φ end r table

-- And of all templates.
pub record TemplatesTold (φs : List Items) (count : ℕ) (r : Outlines) (table : List ℕ) : Type 0 where
  pub outlines : OutlinesTo φs count r.contents r.gaps
  pub occurrences : Occurrences φs table

abbrev pub TellsTemplates : List ℕ → List ℕ → ℕ → Outlines → List ℕ → Type 0
TellsTemplates s starts count r table = (φs : List Items) → StartsAt s φs starts → count ≡ length φs → count ≤ 31 → TemplatesTold φs count r table
