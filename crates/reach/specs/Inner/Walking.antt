-- What the code that walks over the items of a template promises: the outline of a list, its end, and the lowest element in it that is
-- plainly wrong. Each promise is about bytes that read.
use Rattle.std.specs.Prelude.{ℕ, ◌≤◌, ◌<◌, ◌≡◌, List, [], Bool, true, ◌&&◌, length, get_or}
use Rattle.std.proofs.Math.Option.{some}
use Rattle.sets.specs.Sets.{member}
use Rattle.commands.specs.Reading.{whole}
use Rattle.vocabularies.specs.declared.Rule as Tabled
use Rattle.vocabularies.specs.Vocabulary.{Rule, Vocabulary, rule_of, declared, is_in}
use Rattle.vocabularies.specs.Inner.Promises.{no_rule}
use Rattle.pages.specs.declared.Kind.TheVariants.{Template}
use Rattle.pages.specs.declared.AttributeHere.TheVariants.{Done}
use Rattle.pages.specs.Items.{Attribute, Items}
use Rattle.pages.specs.ItemReading.{attributes, items}
use Rattle.pages.specs.Inner.Promises.{Located}
use Rattle.pages.specs.Inner.Steps.{attribute_here}
use Rattle.summaries.specs.Proposal.{edge}
use Rattle.summaries.specs.Summaries.{Summary}
use Rattle.patterns.specs.Inner.Given.{contents}
use Rattle.patterns.specs.Inner.Rounds.{Sets, any_template}
use Rattle.patterns.specs.Inner.Reached.{contents_of}
use Rattle.patterns.specs.Inner.Elements.{carriable_names, plain_breach}
use Rattle.patterns.specs.Inner.LowestWrong.{MaybeWrong, wrong_at, lowest_in, LowestWrong, Passing}
use Rattle.graphs.specs.Inner.Graphs.{Keeps}
use Rattle.reach.specs.declared.Carriable.{Carriable}
use Rattle.reach.specs.declared.WalkedElement.{WalkedElement}
use Rattle.reach.specs.declared.WalkedItems.{WalkedItems}
use Rattle.reach.specs.Inner.Outlines.{Outline}
use Rattle.reach.specs.Inner.PlainlyWrong.{plainly_wrong}
use Rattle.reach.specs.Inner.Promises.{GraphKept}

-- The allowed attributes and contents of each element that has a rule, as sets.
pub record RulesKept (D : Vocabulary) (rules : List Tabled.Rule) : Type 0 where
  pub allows : (e : ℕ) (r : Rule) → rule_of D.rules e ≡ some r → (a : ℕ) → member (get_or rules e no_rule).attributes a ≡ is_in a r.attributes
  pub holds : (e : ℕ) (r : Rule) → rule_of D.rules e ≡ some r → (c : ℕ) → member (get_or rules e no_rule).contents c ≡ is_in c r.contents

-- The names of the attributes at an offset, of an element of template n, that can be carried; and their end.
abbrev pub TellsCarriable : List ℕ → ℕ → List ℕ → ℕ → Carriable → Type 0
TellsCarriable s at graph n r = (before : List ℕ) (f end : ℕ) (δ : List Attribute) → attributes f Template s before at ≡ whole δ end → attribute_here s end ≡ Done
    → (r.next.at ≡ end) × ((G : Summary) → Keeps graph G → (a : ℕ) → member r.names a ≡ is_in a (carriable_names G n δ))

module _ (φs : List Items) (G : Summary) (C : Sets) (n : ℕ) where
  -- The contents that each gap of template n can bring.
  abbrev pub Brings : List ℕ → Type 0
  Brings brings = (g c : ℕ) → g < 8 → c < contents → member (get_or brings g 0) c ≡ any_template φs (λ m. G (edge n g m) && C m c)

  -- The words keep the graph, and what its gaps bring.
  pub record GraphTold (graph brings : List ℕ) : Type 0 where
    pub keeps : Keeps graph G
    pub brought : Brings brings

  -- The attributes that an element can carry, its contents, and those that its rule allows, as sets.
  pub record Compared (R : Rule) (δ : List Attribute) (φ : Items) (named allowed inside held : ℕ) : Type 0 where
    pub has_names : (a : ℕ) → member named a ≡ is_in a (carriable_names G n δ)
    pub allows : (a : ℕ) → member allowed a ≡ is_in a R.attributes
    pub has_contents : (c : ℕ) → c < contents → member inside c ≡ contents_of φs G C n φ c
    pub holds : (c : ℕ) → member held c ≡ is_in c R.contents

-- The element at an offset of template n, if it is plainly wrong.
abbrev pub TellsOutside : ℕ → ℕ → ℕ → ℕ → ℕ → ℕ → MaybeWrong → Type 0
TellsOutside n at named allowed inside held r = (φs : List Items) (G : Summary) (C : Sets) (R : Rule) (δ : List Attribute) (φ : Items)
    → Compared φs G C n R δ φ named allowed inside held → r ≡ wrong_at n at (plain_breach φs G C R n δ φ)

-- The lowest element of some items of template n that is plainly wrong, where elements that have a rule are read alone.
abbrev pub FindsWrong : (ℕ → Bool) → List Tabled.Rule → List ℕ → List ℕ → ℕ → Items → MaybeWrong → Type 0
FindsWrong ruled rules graph brings n φ wrong = (φs : List Items) (G : Summary) (C : Sets) (D : Vocabulary) → RulesKept D rules
    → GraphTold φs G C n graph brings → ((e : ℕ) → ruled e ≡ true → declared D.rules e ≡ true)
    → wrong ≡ lowest_in n (λ e mark δ χ. plainly_wrong φs G C D n e δ χ) φ

-- What is told of an element with these attributes and contents, and of a list of items.
pub record ElementWalked (ruled : ℕ → Bool) (rules : List Tabled.Rule) (graph brings : List ℕ) (n : ℕ) (δ : List Attribute) (φ : Items) (end : ℕ) (r : WalkedElement) : Type 0 where
  pub ends : r.next.at ≡ end
  pub carries : (G : Summary) → Keeps graph G → (a : ℕ) → member r.names a ≡ is_in a (carriable_names G n δ)
  pub contains : (φs : List Items) (G : Summary) (C : Sets) → GraphTold φs G C n graph brings → (c : ℕ) → c < contents → member r.gets c ≡ contents_of φs G C n φ c
  pub finds : FindsWrong ruled rules graph brings n φ r.wrong

pub record ItemsWalked (ruled : ℕ → Bool) (rules : List Tabled.Rule) (graph brings : List ℕ) (n : ℕ) (φ : Items) (end : ℕ) (r : WalkedItems) : Type 0 where
  pub ends : r.next.at ≡ end
  pub outline : Outline φ r.inside r.gaps
  pub finds : FindsWrong ruled rules graph brings n φ r.wrong

abbrev pub WalksElement : List ℕ → List Tabled.Rule → List ℕ → List ℕ → ℕ → ℕ → WalkedElement → Type 0
WalksElement s rules graph brings n start r = (ruled : ℕ → Bool) (f depth inside end : ℕ) (δ : List Attribute) (φ : Items)
    → attributes f Template s [] start ≡ whole δ inside → attribute_here s inside ≡ Done → items f Template ruled s depth inside ≡ whole φ end
    → ElementWalked ruled rules graph brings n δ φ end r

abbrev pub WalksItems : List ℕ → List Tabled.Rule → List ℕ → List ℕ → ℕ → ℕ → WalkedItems → Type 0
WalksItems s rules graph brings n at r = (ruled : ℕ → Bool) (f depth end : ℕ) (φ : Items) → items f Template ruled s depth at ≡ whole φ end
    → ItemsWalked ruled rules graph brings n φ end r

-- The words have the contents that can stand in the pages of each template.
abbrev pub ContentsKept : List Items → Sets → List ℕ → Type 0
ContentsKept φs C within = (n c : ℕ) → n ≤ length φs → c < contents → member (get_or within n 0) c ≡ C n c

abbrev pub TellsBrings : List ℕ → ℕ → List ℕ → List ℕ → Type 0
TellsBrings graph n within r = (φs : List Items) (G : Summary) (C : Sets) (count : ℕ) → GraphKept φs G graph count → ContentsKept φs C within
    → Brings φs G C n r

-- The lowest element that is plainly wrong in items of template n that stand at an offset.
abbrev pub TellsWrongIn : List ℕ → List Tabled.Rule → ℕ → List ℕ → ℕ → List ℕ → MaybeWrong → Type 0
TellsWrongIn s rules at graph n within r = (φs : List Items) (G : Summary) (C : Sets) (D : Vocabulary) (count : ℕ)
    → GraphKept φs G graph count → RulesKept D rules → ContentsKept φs C within
    → (f end : ℕ) (φ : Items) → items f Template (declared D.rules) s 0 at ≡ whole φ end
    → r ≡ lowest_in n (λ e mark δ χ. plainly_wrong φs G C D n e δ χ) φ

-- The lowest element of the templates of a set that is plainly wrong.
abbrev pub TellsPlainlyWrong : List ℕ → List Tabled.Rule → List ℕ → ℕ → List ℕ → List ℕ → ℕ → MaybeWrong → Type 0
TellsPlainlyWrong s rules starts count graph within reached r = (φs : List Items) (G : Summary) (C : Sets) (D : Vocabulary)
    → GraphKept φs G graph count → RulesKept D rules → Located (declared D.rules) s φs count starts → ContentsKept φs C within
    → LowestWrong (Passing φs reached (λ n e mark δ φ. plainly_wrong φs G C D n e δ φ)) r
