-- What the judge of a page answers once its vocabulary, or the page too, was read.
use Rattle.std.specs.Prelude.{ℕ, ◌≡◌, List, Bool, cond, Result}
use Rattle.verdicts.specs.declared.Fault.TheVariants.{NotRoot}
use Rattle.verdicts.specs.declared.Refusal.{Refusal}
use Rattle.verdicts.specs.declared.Refusal.TheVariants as Refusals
use Rattle.verdicts.specs.declared.Verdict.{Verdict}
use Rattle.verdicts.specs.declared.Verdict.TheVariants.{Refused}
use Rattle.sets.specs.Sets.{member}
use Rattle.commands.specs.declared.Position.{Position}
use Rattle.commands.specs.declared.ReadError.{ReadError}
use Rattle.commands.specs.Reading.{whole, enough}
use Rattle.commands.specs.Inner.Parts.{Agrees, AgreesWith}
use Rattle.vocabularies.specs.declared.Tables.{Tables}
use Rattle.vocabularies.specs.Vocabulary.{Vocabulary}
use Rattle.vocabularies.specs.Vocabulary as Vocabularies
use Rattle.vocabularies.specs.VocabularyReading.{vocabulary, alone}
use Rattle.vocabularies.specs.Inner.Promises.{Describes}
use Rattle.pages.specs.declared.Kind.TheVariants.{Page}
use Rattle.pages.specs.Items.{blank, Items, more, without_blank}
use Rattle.pages.specs.ItemReading.{items}
use Rattle.judging.specs.Inner.Judgement.{first_wrong, is_alone, wrong_verdict}

abbrev pub not_root : Refusal
not_root = Refusals.Page (NotRoot 0 0)

-- What is left of a page behind its first blank text.
pub record Solid (ruled : ℕ → Bool) (p : List ℕ) (φ : Items) (at end : ℕ) : Type 0 where
  pub fuel : ℕ
  pub left : Items
  pub reads : items fuel Page ruled p 0 at ≡ whole left end
  pub begins : (rest : Items) → left ≡ more blank rest → ⊥
  pub same : without_blank φ ≡ without_blank left
  pub finds : (D : Vocabulary) → first_wrong D φ ≡ first_wrong D left

abbrev pub AfterBlank : List ℕ → ℕ → Position → Type 0
AfterBlank p at r = (ruled : ℕ → Bool) (f end : ℕ) (φ : Items) → items f Page ruled p 0 at ≡ whole φ end → Solid ruled p φ r.at end

-- Under a vocabulary that these tables describe, the verdict of a page that can be read.
abbrev pub JudgesRead : List ℕ → List ℕ → Tables → Verdict → Type 0
JudgesRead v p t r = (D : Vocabulary) → Describes v D t → (φ : Items) (end : ℕ)
    → items (enough p) Page (Vocabularies.declared D.rules) p 0 0 ≡ whole φ end
    → r ≡ cond (is_alone D.root φ) (wrong_verdict (first_wrong D φ)) (Refused not_root)

-- A vocabulary, and a page of these elements, that are slices of their own.
abbrev pub VocabularyReads : List ℕ → Result (Tables × Position) ReadError → Type 0
VocabularyReads v r = AgreesWith (Describes v) (alone v (vocabulary v)) r

abbrev pub PageReads : ℕ → List ℕ → Result Position ReadError → Type 0
PageReads declared p r = Agrees (alone p (items (enough p) Page (member declared) p 0 0)) r
