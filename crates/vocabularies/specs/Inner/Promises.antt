-- What the code that reads vocabularies promises, in terms of the definitions that read them.
use Rattle.std.specs.Prelude.{ℕ, ◌+◌, ◌<◌, min, ◌≡◌, List, [], ◌∷◌, ◌++◌, Bool, false, length, get_or, ltb, Result}
use Rattle.std.proofs.Math.Option.{some}
use Rattle.sets.specs.Sets.{member}
use Rattle.strings.specs.Inner.Promises.{set_number}
use Rattle.commands.specs.declared.Context.{Context}
use Rattle.commands.specs.declared.Position.{Position}
use Rattle.commands.specs.declared.ReadError.{ReadError}
use Rattle.commands.specs.Commands.{byte, operand_bytes}
use Rattle.commands.specs.Reading.{whole}
use Rattle.commands.specs.Inner.Parts.{Agrees, AgreesWith, Enough}
pub use Rattle.commands.specs.Inner.Parts.{part_of}
use Rattle.vocabularies.specs.declared.Tables.{Tables}
use Rattle.vocabularies.specs.declared.Rule as Tabled
use Rattle.vocabularies.specs.declared.FormulaHere.{FormulaHere}
use Rattle.vocabularies.specs.declared.FormulaHere.TheVariants.{Conj, Disj, Neg, Truth, Attr, Content, Order, Value, Nothing}
use Rattle.vocabularies.specs.declared.Fact as Kept
use Rattle.vocabularies.specs.declared.Fact.TheVariants.{Carried, Present, Ordered, Valued}
use Rattle.vocabularies.specs.declared.Facts.{Facts}
use Rattle.vocabularies.specs.Facts.{Fact, carried, present, ordered, valued, is_among, add, with_facts, facts_of}
use Rattle.vocabularies.specs.Vocabulary.{Formula, conj, disj, neg, truth, attr, content, order, value, Rule, Vocabulary, rule_of, declared, is_in}
use Rattle.vocabularies.specs.VocabularyReading.{Shape, binary, unary, leaf, shape_at, most_facts, formula, rising, clauses, rule_body, vocabulary}

-- The fact of the definitions that a fact of the code stands for.
abbrev pub meaning_of : Kept.Fact → Fact
meaning_of (Carried a) = carried a
meaning_of (Present c) = present c
meaning_of (Ordered c d) = ordered c d
meaning_of (Valued a set) = valued a (set_number set)

-- The fact that is kept at a place.
abbrev pub kept_at : Facts → ℕ → Kept.Fact
kept_at t i = get_or t.kept i (Carried 0)

abbrev pub Stored : Facts → ℕ → Fact → Type 0
Stored t i x = meaning_of (kept_at t i) ≡ x

-- A list of facts as code keeps it: whole up to 8 facts, and of a longer one the first 8.
pub record Represents (t : Facts) (xs : List Fact) : Type 0 where
  pub room : length t.kept ≡ 8
  pub counts : t.count ≡ min 9 (length xs)
  pub stores : (i : ℕ) → i < 8 → i < length xs → Stored t i (get_or xs i (present 0))

-- Whether a fact is among those kept, and what is kept with it.
module _ (t : Facts) (x : Kept.Fact) where
  abbrev pub TellsAmong : Bool → Type 0
  TellsAmong r = (xs : List Fact) → Represents t xs → r ≡ is_among (meaning_of x) xs

  abbrev pub Adds : Facts → Type 0
  Adds r = (xs : List Fact) → Represents t xs → Represents r (add (meaning_of x) xs)

-- The facts with those of a formula.
abbrev pub FactsWith : Facts → Formula → Facts → Type 0
FactsWith t ψ r = (xs : List Fact) → Represents t xs → Represents r (with_facts ψ xs)

-- The command at an offset makes a formula of this shape, and `next` is behind it.
pub record Begins (s : List ℕ) (at : ℕ) (shape : Shape) (next : ℕ) : Type 0 where
  pub inside : at < length s
  pub shaped : shape_at s at (byte s at) ≡ shape
  pub after : next ≡ at + 1 + operand_bytes (byte s at)

-- What formula stands at an offset, form by form in the order of section 6's grammar; or none does.
abbrev pub Stands : List ℕ → ℕ → FormulaHere → Type 0
Stands s at (Conj next) = Begins s at (binary conj) next.at
Stands s at (Disj next) = Begins s at (binary disj) next.at
Stands s at (Neg next) = Begins s at (unary neg) next.at
Stands s at (Truth next) = Begins s at (leaf truth) next.at
Stands s at (Attr a next) = Begins s at (leaf (attr a)) next.at
Stands s at (Content c next) = Begins s at (leaf (content c)) next.at
Stands s at (Order c d next) = Begins s at (leaf (order c d)) next.at
Stands s at (Value a set next) = Begins s at (leaf (value a (set_number set))) next.at
Stands s at Nothing = (f depth end : ℕ) (ψ : Formula) → formula f s depth at ≡ whole ψ end → ⊥

-- The end of the formula that stands at an offset, and what holds of it.
abbrev pub Walks : (Formula → Type 0) → List ℕ → ℕ → ℕ → Type 0
Walks P s at next = (f depth end : ℕ) (ψ : Formula) → formula f s depth at ≡ whole ψ end → (next ≡ end) × P ψ

-- A formula below so many open connectives.
abbrev pub FormulaReads : List ℕ → ℕ → ℕ → Result Position ReadError → Type 0
FormulaReads s depth at r = (f : ℕ) → Enough s at f → Agrees (formula f s depth at) r

-- The facts of the formula that stands between two offsets.
abbrev pub FactsRead : List ℕ → ℕ → ℕ → Facts → Type 0
FactsRead s at end t = (f depth : ℕ) (ψ : Formula) → formula f s depth at ≡ whole ψ end → Represents t (facts_of ψ)

-- Whether the formula that stands there has more facts than a clause may have.
abbrev pub ManyFacts : List ℕ → ℕ → ℕ → Bool → Type 0
ManyFacts s at end r = (f depth : ℕ) (ψ : Formula) → formula f s depth at ≡ whole ψ end → r ≡ ltb most_facts (length (facts_of ψ))

-- The names of a rising list as a set.
abbrev pub NamesRead : List ℕ → Context → ℕ → Result (ℕ × Position) ReadError → Type 0
NamesRead s x at r = (f : ℕ) → Enough s at f → AgreesWith (λ ns set. (k : ℕ) → member set k ≡ is_in k ns) (rising f x s 0 at) r

abbrev pub ClausesRead : List ℕ → ℕ → Result Position ReadError → Type 0
ClausesRead s at r = (f : ℕ) → Enough s at f → Agrees (clauses f s at) r

-- The allowed names of a rule as sets, and the offset where its clauses stand.
pub record RuleTables (s : List ℕ) (r : Rule) (attributes contents at : ℕ) : Type 0 where
  pub allows : (a : ℕ) → member attributes a ≡ is_in a r.attributes
  pub holds : (c : ℕ) → member contents c ≡ is_in c r.contents
  pub stands : (f : ℕ) → Enough s at f → (end : ℕ) × (clauses f s at ≡ whole r.clauses end)

-- A rule as code keeps it.
abbrev pub RuleKept : List ℕ → Rule → Tabled.Rule → Type 0
RuleKept s r x = RuleTables s r x.attributes x.contents x.clauses.at

-- What follows `01 e`.
abbrev pub RuleReads : List ℕ → ℕ → Result (Tabled.Rule × Position) ReadError → Type 0
RuleReads s at r = (e f : ℕ) → Enough s at f → AgreesWith (RuleKept s) (rule_body f s e at) r

-- What stands in the table for an element without a rule.
abbrev pub no_rule : Tabled.Rule
no_rule = record { attributes = 0; contents = 0; clauses = record { at = 0 } }

pub record Describes (s : List ℕ) (D : Vocabulary) (t : Tables) : Type 0 where
  pub declares : (e : ℕ) → member t.declared e ≡ declared D.rules e
  pub names_root : t.root ≡ D.root
  pub rule : (e : ℕ) (r : Rule) → rule_of D.rules e ≡ some r → RuleKept s r (get_or t.rules e no_rule)

-- The table has a place for each element.
abbrev pub Long : Tables → Type 0
Long t = length t.rules ≡ 64

-- The tables describe the rules so far, before the root is known.
abbrev pub DescribesRules : List ℕ → List Rule → Tables → Type 0
DescribesRules s rs t = Describes s (record { rules = rs; root = t.root }) t

-- The tables with the rule of one element more.
abbrev pub AddsRule : Tables → ℕ → Tabled.Rule → Tables → Type 0
AddsRule t e x r = (s : List ℕ) (rs : List Rule) (rule : Rule) → DescribesRules s rs t → declared rs e ≡ false → rule.element ≡ e
    → RuleKept s rule x → DescribesRules s (rs ++ (rule ∷ [])) r

abbrev pub VocabularyReads : List ℕ → Result (Tables × Position) ReadError → Type 0
VocabularyReads s r = AgreesWith (Describes s) (vocabulary s) r
