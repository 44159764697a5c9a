-- What the code that judges promises, in terms of the definitions that read and judge. Each promise is about bytes that read; what
-- the code answers on others is free, and no public call hands it others.
use Rattle.std.specs.Prelude.{ℕ, ◌%◌, ◌≤◌, ◌<◌, ◌≡◌, List, [], Bool, true, false, not, ◌&&◌, ◌||◌, length, get_or, ltb}
use Rattle.std.specs.Prelude as Values
use Rattle.std.specs.Prelude.{Some, None}
use Rattle.std.proofs.Math.Option.{Option, some, none}
use Rattle.sets.specs.Sets.{member}
use Rattle.sets.specs.Inner.Promises.{word_size, count_below}
use Rattle.verdicts.specs.declared.Breach.{Breach}
use Rattle.commands.specs.declared.Position.{Position}
use Rattle.commands.specs.Reading.{whole}
use Rattle.vocabularies.specs.Vocabulary.{Formula, Vocabulary, rule_of, declared, is_in}
use Rattle.vocabularies.specs.Vocabulary as Vocabularies
use Rattle.vocabularies.specs.VocabularyReading.{clauses}
use Rattle.vocabularies.specs.Inner.Promises.{Walks, RuleKept, no_rule}
use Rattle.pages.specs.declared.Kind.TheVariants.{Page}
use Rattle.pages.specs.declared.ItemHere.{ItemHere}
use Rattle.pages.specs.declared.ItemHere.TheVariants as Here
use Rattle.pages.specs.declared.AttributeHere.TheVariants.{Done}
use Rattle.pages.specs.Items.{Attribute, Item, Items}
use Rattle.pages.specs.ItemReading.{attributes, item, items}
use Rattle.pages.specs.RightPages.{names, word}
use Rattle.pages.specs.Inner.Steps.{attribute_here}
use Rattle.judging.specs.declared.Shape.{Shape}
use Rattle.judging.specs.declared.Known.{Known}
use Rattle.judging.specs.declared.Standing.{Standing}
use Rattle.vocabularies.specs.declared.Rule.{Rule}
use Rattle.judging.specs.declared.Named.{Named}
use Rattle.judging.specs.declared.Contents.{Contents}
use Rattle.judging.specs.declared.Judged.{Judged}
use Rattle.judging.specs.declared.Listed.{Listed}
use Rattle.judging.specs.Inner.Judgement.{Atoms, truth_of, precedes, holds_value, first_failing, is_false, breach_under, first_wrong, first_wrong_item}

-- The table of an element's order. A place is a number of different contents: so many stand before the first of a kind, and before
-- the last.
abbrev pub nowhere : Standing
nowhere = record { first = 0; last = 0 }

abbrev pub first_place : List Standing → ℕ → ℕ
first_place order c = (get_or order c nowhere).first

abbrev pub last_place : List Standing → ℕ → ℕ
last_place order c = (get_or order c nowhere).last

-- What the tables of an element stand for: the sets of its attributes' names and of its contents, the string of each name, and the
-- order of its contents.
abbrev pub table_atoms : Shape → List ℕ → List Standing → Atoms
table_atoms shape strings order = record {
  attr = λ a. member shape.names a;
  content = λ c. member shape.contents c;
  order = λ c d. not (member shape.contents c && (member shape.contents d && ltb (first_place order d) (last_place order c)));
  value = λ a m. not (member shape.names a) || member m (get_or strings (a % 32) 0);
}

-- The truth and the end of the formula that stands at an offset.
abbrev pub Holds : Atoms → List ℕ → ℕ → Bool → ℕ → Type 0
Holds A v at b next = Walks (λ ψ. b ≡ truth_of A ψ) v at next

-- Atoms of an element of a shape, whatever its strings and its order are.
pub record Shaped (shape : Shape) (A : Atoms) : Type 0 where
  pub attrs : (a : ℕ) → A.attr a ≡ member shape.names a
  pub contents : (c : ℕ) → A.content c ≡ member shape.contents c
  pub orders : (c d : ℕ) → (member shape.contents c && member shape.contents d) ≡ false → A.order c d ≡ true
  pub values : (a m : ℕ) → member shape.names a ≡ false → A.value a m ≡ true

-- A formula that is as true of one element of a shape as of another.
abbrev pub Decided : Shape → Formula → Type 0
Decided shape ψ = (A B : Atoms) → Shaped shape A → Shaped shape B → truth_of A ψ ≡ truth_of B ψ

-- The end of the formula that stands at an offset; and if so answered, it is decided by the shape.
abbrev pub Decides : Shape → List ℕ → ℕ → Bool → ℕ → Type 0
Decides shape v at b next = Walks (λ ψ. b ≡ true → Decided shape ψ) v at next

-- What an answer tells of an element's rule.
abbrev pub broken_by : Values.Option Breach → Option Breach
broken_by None = none
broken_by (Some b) = some b

-- The first that fails of the clauses that stand from an offset on, the places of which count from k.
abbrev pub FirstFails : Atoms → List ℕ → ℕ → ℕ → Option Breach → Type 0
FirstFails A v at k o = (f end : ℕ) (ψs : List Formula) → clauses f v at ≡ whole ψs end → o ≡ first_failing (is_false A) k ψs

-- No clause that stands from an offset on fails.
abbrev pub NoneFails : Atoms → List ℕ → ℕ → Type 0
NoneFails A v at = (k : ℕ) → FirstFails A v at k none

-- All clauses from an offset on are met by every element of a shape.
pub record Settled (v : List ℕ) (shape : Shape) (to : ℕ) : Type 0 where
  pub met : (A : Atoms) → Shaped shape A → NoneFails A v to

-- What is known of a shape holds of any rule, also of one for which it was not found.
abbrev pub SettledRow : List ℕ → Known → Type 0
SettledRow v known = Settled v known.shape known.settled

abbrev pub unknown : Known
unknown = record { shape = record { names = 0; contents = 0 }; settled = 0; clauses = 0 }

pub record Remembered (v : List ℕ) (shapes : List Known) : Type 0 where
  pub long : length shapes ≡ 64
  pub settled : (k : ℕ) → k < 64 → SettledRow v (get_or shapes k unknown)

-- The tables of attributes.
pub record Naming (δ : List Attribute) (named : ℕ) (strings : List ℕ) : Type 0 where
  pub has : (a : ℕ) → member named a ≡ is_in a (names δ)
  pub holds : (a m : ℕ) → is_in a (names δ) ≡ true → member m (get_or strings (a % 32) 0) ≡ holds_value δ a m

-- No more are counted than the set has.
abbrev pub Counted : Contents → Type 0
Counted inside = inside.count ≤ count_below word_size (member inside.set)

-- The tables of a word of contents, and how many are counted; where a content is not in the word, its row tells nothing.
pub record Containing (w : List ℕ) (contents : ℕ) (order : List Standing) (count : ℕ) : Type 0 where
  pub has : (c : ℕ) → member contents c ≡ is_in c w
  pub before : (c : ℕ) → is_in c w ≡ true → (first_place order c < count) × (last_place order c ≤ count)
  pub ordered : (c d : ℕ) → is_in c w ≡ true → is_in d w ≡ true → ltb (first_place order d) (last_place order c) ≡ precedes w d c

-- The attributes that stand at an offset.
abbrev pub Names : List ℕ → ℕ → Named → List ℕ → Type 0
Names p at r strings = (f end : ℕ) (δ : List Attribute) → attributes f Page p [] at ≡ whole δ end → attribute_here p end ≡ Done
    → (r.next.at ≡ end) × Naming δ r.names strings

-- What an element breaks of a rule.
abbrev pub TellsOutcome : List ℕ → Rule → Shape → List ℕ → List Standing → Values.Option Breach → Type 0
TellsOutcome v rule shape strings order r = (R : Vocabularies.Rule) (δ : List Attribute) (w : List ℕ) (count : ℕ)
    → RuleKept v R rule → Naming δ shape.names strings → Containing w shape.contents order count → broken_by r ≡ breach_under R δ w

-- The rules of a vocabulary, each at its element's number.
abbrev pub Tabled : List ℕ → Vocabulary → List Rule → Type 0
Tabled v D rules = (e : ℕ) (R : Vocabularies.Rule) → rule_of D.rules e ≡ some R → RuleKept v R (get_or rules e no_rule)

-- The position after a step.
abbrev pub step_next : ItemHere → Position
step_next (Here.Text next) = next
step_next (Here.Gap g next) = next
step_next (Here.Element e next) = next
step_next (Here.Blank next) = next
step_next (Here.End next) = next

-- The end of an item, and its first wrong element.
pub record ItemJudged (D : Vocabulary) (i : Item) (end : ℕ) (r : Judged) : Type 0 where
  pub ends : r.next.at ≡ end
  pub finds : r.wrong ≡ first_wrong_item D i

abbrev pub JudgesItem : Vocabulary → List ℕ → ℕ → Judged → Type 0
JudgesItem D p at r = (f depth end : ℕ) (i : Item) → item f Page (declared D.rules) p depth at ≡ whole i end → ItemJudged D i end r

-- The contents of a list of items, its end, and its first wrong element.
pub record ItemsJudged (D : Vocabulary) (φ : Items) (end : ℕ) (r : Listed) (order : List Standing) : Type 0 where
  pub count : ℕ
  pub contains : Containing (word φ) r.contents order count
  pub ends : r.next.at ≡ end
  pub finds : r.wrong ≡ first_wrong D φ

abbrev pub JudgesItems : Vocabulary → List ℕ → ℕ → Listed → List Standing → Type 0
JudgesItems D p at r order = (f depth end : ℕ) (φ : Items) → items f Page (declared D.rules) p depth at ≡ whole φ end
    → ItemsJudged D φ end r order
