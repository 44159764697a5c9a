-- What the code that works out pattern sets promises, in terms of the definitions that read items and of the rounds of `patterns`.
-- Each promise is about bytes that read; what the code answers on others is free, and no public call hands it others.
use Rattle.std.specs.Prelude.{ℕ, suc, ◌≤◌, ◌<◌, ◌≡◌, List, [], ◌∷◌, Bool, true, false, ◌⊎◌, length, get_or, Option, Some}
use Rattle.sets.specs.Sets.{member}
use Rattle.commands.specs.Reading.{whole}
use Rattle.pages.specs.declared.Kind.TheVariants.{Template}
use Rattle.pages.specs.Items.{Attribute, element, Items}
use Rattle.pages.specs.ItemReading.{attributes, items}
use Rattle.pages.specs.declared.AttributeHere.TheVariants.{Done}
use Rattle.pages.specs.Inner.Steps.{attribute_here}
use Rattle.summaries.specs.Proposal.{edge}
use Rattle.summaries.specs.Summaries.{Summary}
use Rattle.patterns.specs.Inner.Morphisms.{Morphism}
use Rattle.patterns.specs.Inner.Rounds.{Set, Sets, only, attributes_take, product, patterns, item_patterns, round, rounds, Settled}
use Rattle.pattern_sets.specs.Inner.PatternSets.{holds}
use Rattle.schemes.specs.declared.Scheme.{Scheme}
use Rattle.schemes.specs.Inner.Schemes.{Is}
use Rattle.schemes.specs.Inner.Promises.{OfScheme}
use Rattle.graphs.specs.Inner.Graphs.{Keeps}
use Rattle.graphs.specs.Inner.Graphs as Graphs
use Rattle.languages.specs.declared.Filled.{Filled}
use Rattle.languages.specs.declared.Line.{Line}
use Rattle.languages.specs.declared.Patterned.{Patterned}
use Rattle.languages.specs.Inner.Tables.{Used, SetsAre, GapSetsAre, Lent, Shown, Has}

-- The patterns of the templates of a set, no less and no more.
pub record UnionOf (templates : ℕ) (sets : List (List ℕ)) (r : List ℕ) : Type 0 where
  pub complete : (m y : ℕ) → m < 32 → member templates m ≡ true → holds (get_or sets m []) y ≡ true → holds r y ≡ true
  pub sound : (y : ℕ) → holds r y ≡ true → (m : ℕ) × (m < 32) × (member templates m ≡ true) × (holds (get_or sets m []) y ≡ true)

-- Whether all attributes of template n that stand at an offset have something to take, and the position after them.
abbrev pub AttributesTake : List ℕ → ℕ → List ℕ → ℕ → Filled → Type 0
AttributesTake s at graph n r = (G : Summary) → Keeps graph G → (before : List ℕ) (f end : ℕ) (δ : List Attribute) → attributes f Template s before at ≡ whole δ end
    → attribute_here s end ≡ Done → (r.takes ≡ attributes_take G n δ) × (r.next.at ≡ end)

-- The patterns of a list so far; what may not change them changes nothing.
pub record LineIs (M : Morphism) (takes : List (List ℕ)) (line : Line) (A : Set) : Type 0 where
  pub is : Is M line.set A
  pub contents : (c : ℕ) → c < 64 → member line.contents c ≡ false → (x : ℕ) → x < M.size → product M A (only (M.of (c ∷ []))) x ≡ A x
  pub gaps : (g : ℕ) → g < 8 → member line.gaps g ≡ false → (I : Set) → Is M (get_or takes g []) I → (x : ℕ) → x < M.size → product M A I x ≡ A x

-- A list with these patterns; with one content more, and with what a gap takes, for a morphism of which the check makes use.
abbrev pub LineOf : List ℕ → Line → Type 0
LineOf set line = (M : Morphism) (takes : List (List ℕ)) (A : Set) → Is M set A → LineIs M takes line A

abbrev pub LineWithContent : Scheme → Line → ℕ → Line → Type 0
LineWithContent r line c more = OfScheme r (λ M. Used M → (takes : List (List ℕ)) (A : Set) → LineIs M takes line A → LineIs M takes more (product M A (only (M.of (c ∷ [])))))

abbrev pub LineWithGap : Scheme → List (List ℕ) → Line → ℕ → Line → Type 0
LineWithGap r takes line g more = OfScheme r (λ M. (A I : Set) → LineIs M takes line A → Is M (get_or takes g []) I → LineIs M takes more (product M A I))

-- With an element more: with its content, if it has a pattern, and else no pattern is left.
abbrev pub LineWithElement : Scheme → Line → ℕ → Bool → Line → Type 0
LineWithElement r line e true more = LineWithContent r line e more
LineWithElement r line e false more = (none : List ℕ) × ((x : ℕ) → holds none x ≡ false) × LineOf none more

-- The set of element e of template n whose attributes stand at an offset, and that of items that stand there, at any depth.
abbrev pub ElementPatterns : List ℕ → ℕ → ℕ → Scheme → List ℕ → ℕ → List (List ℕ) → Patterned → Type 0
ElementPatterns s at e r graph n takes p = (φs : List Items) (G : Summary) (M : Morphism) (X : Sets) → Lent r graph φs G M → GapSetsAre φs G M X n takes
    → (ruled : ℕ → Bool) (f depth inside end mark : ℕ) (δ : List Attribute) (φ : Items) → attributes f Template s [] at ≡ whole δ inside → attribute_here s inside ≡ Done
    → items f Template ruled s depth inside ≡ whole φ end → Has M (item_patterns φs G M X n (element e mark δ φ)) end p

abbrev pub ListPatterns : List ℕ → ℕ → Scheme → List ℕ → ℕ → List (List ℕ) → Patterned → Type 0
ListPatterns s at r graph n takes p = (φs : List Items) (G : Summary) (M : Morphism) (X : Sets) → Lent r graph φs G M → GapSetsAre φs G M X n takes
    → (ruled : ℕ → Bool) (f depth end : ℕ) (φ : Items) → items f Template ruled s depth at ≡ whole φ end → Has M (patterns φs G M X n φ) end p

-- The set of template n in the round after that of which the sets are.
abbrev pub IsRound : Scheme → List ℕ → List ℕ → List ℕ → List (List ℕ) → ℕ → List ℕ → Type 0
IsRound r s graph starts sets n row = (φs : List Items) (G : Summary) (M : Morphism) (X : Sets) → Shown r s graph starts φs G M → SetsAre φs M X sets
    → n ≤ length φs → Is M row (round φs G M X n)

-- The templates to which template n has edges; and those of every template.
abbrev pub Targets : List ℕ → ℕ → ℕ → Type 0
Targets graph n r = (g m : ℕ) → g < 8 → Graphs.holds graph (edge n g m) ≡ true → member r m ≡ true

abbrev pub TargetsTable : List ℕ → ℕ → List ℕ → Type 0
TargetsTable graph count table = (n : ℕ) → n < 32 → n ≤ count → Targets graph n (get_or table n 0)

-- The answer that a template keeps its set: there was a round before, and what it changed is none of these targets.
abbrev pub KeepsSet : ℕ → Option ℕ → Bool → Type 0
KeepsSet targets changed true = (others : ℕ) × (changed ≡ Some others) × ((k : ℕ) → member targets k ≡ true → member others k ≡ false)
KeepsSet targets changed false = Unit {0}

-- Sets X and Y of which only those of some templates differ.
abbrev pub OnlyChanged : List Items → Morphism → Sets → Sets → ℕ → Type 0
OnlyChanged φs M X Y changed = (m x : ℕ) → m ≤ length φs → x < M.size → member changed m ≡ false → X m x ≡ Y m x

-- The sets X, which code has, came of a round after sets Y, which changed only some of them, if there was one.
abbrev pub CameOf : List Items → Summary → Morphism → Sets → Option ℕ → List (List ℕ) → Sets → Type 0
CameOf φs G M X changed sets Y = (others : ℕ) → changed ≡ Some others → OnlyChanged φs M X Y others × SetsAre φs M (round φs G M Y) sets

-- A round more.
abbrev pub Rounds : Scheme → List ℕ → List ℕ → List ℕ → List ℕ → List (List ℕ) → ℕ → Option ℕ → List (List ℕ) → Type 0
Rounds r s graph starts targets sets count changed next = (φs : List Items) (G : Summary) (M : Morphism) (X Y : Sets)
    → Shown r s graph starts φs G M → TargetsTable graph count targets → count ≡ length φs → SetsAre φs M X sets
    → CameOf φs G M X changed sets Y → SetsAre φs M (round φs G M X) next

-- By the answer: every pattern of a set is one of another; or the set has one that the other lacks.
abbrev pub WithinSet : List ℕ → List ℕ → Bool → Type 0
WithinSet a b true = (x : ℕ) → holds a x ≡ true → holds b x ≡ true
WithinSet a b false = (x : ℕ) × (x < 256) × (holds a x ≡ true) × (holds b x ≡ false)

-- The set of some template that is there has a pattern that its other set lacks.
pub record Lacks (count : ℕ) (has lacks : List (List ℕ)) : Type 0 where
  pub row : ℕ
  pub pattern : ℕ
  pub row_low : row < 32
  pub row_there : row ≤ count
  pub pattern_there : pattern < 256
  pub is_held : holds (get_or has row []) pattern ≡ true
  pub is_not : holds (get_or lacks row []) pattern ≡ false

-- The sets after a round have all patterns of those before, and more for these templates alone.
pub record Grown (count : ℕ) (before after : List (List ℕ)) (more : ℕ) : Type 0 where
  pub within : (n x : ℕ) → n < 32 → n ≤ count → holds (get_or before n []) x ≡ true → holds (get_or after n []) x ≡ true
  pub others : (n x : ℕ) → n < 32 → n ≤ count → member more n ≡ false → holds (get_or after n []) x ≡ holds (get_or before n []) x
  pub some : (more ≡ 0 → ⊥) → Lacks count after before

-- The templates whose sets have more patterns after a round; or some set lacks one that it had.
abbrev pub Grows : ℕ → List (List ℕ) → List (List ℕ) → ℕ → Type 0
Grows count before after more = Grown count before after more ⊎ ((more ≡ 0) × Lacks count before after)

-- The sets of the first round after which nothing changes. One round more was made, which changed nothing; it counts (document 02, F-10).
pub record SettlesAt (φs : List Items) (G : Summary) (M : Morphism) (made : ℕ) (sets : List (List ℕ)) : Type 0 where
  pub last : ℕ
  pub counts : made ≡ suc last
  pub most : made ≤ 8193
  pub are : SetsAre φs M (rounds φs G M last) sets
  pub rests : Settled φs G M (rounds φs G M last)
  pub no_earlier : (t : ℕ) → t < last → Settled φs G M (rounds φs G M t) → ⊥

abbrev pub Settles : Scheme → List ℕ → List ℕ → List ℕ → ℕ → ℕ → List (List ℕ) → Type 0
Settles r s graph starts count made sets = (φs : List Items) (G : Summary) (M : Morphism) → Shown r s graph starts φs G M → count ≡ length φs → SettlesAt φs G M made sets
