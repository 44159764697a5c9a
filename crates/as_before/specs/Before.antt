-- The verdicts as they were before document 02, F-6: 12 for a wrong element, one that is not right, whatever is wrong with it. And what it
-- means that F-6 changes nothing but the number and B of a wrong element.
use Rattle.std.specs.Prelude.{ℕ, ◌≤◌, ◌<◌, ◌≡◌, List, Bool, ◌↔◌, ◌⊎◌}
use Rattle.std.proofs.Math.Option.{some}
use Rattle.verdicts.specs.declared.Form.{Form}
use Rattle.verdicts.specs.declared.Numbers.{Numbers}
use Rattle.verdicts.specs.Printed.{prints, form_number}
use Rattle.commands.specs.Reading.{whole, refused}
use Rattle.vocabularies.specs.Vocabulary.{Vocabulary}
use Rattle.vocabularies.specs.VocabularyReading.{vocabulary_slice}
use Rattle.pages.specs.Items.{Items}
use Rattle.pages.specs.ItemReading.{page_slice}
use Rattle.pages.specs.RightPages.{ElementRight, RootAlone, Right, SomeElement}
use Rattle.pages.specs.PageVerdict.{Readable}
use Rattle.programs.specs.Program.{statement_at, template_at}
use Rattle.summaries.specs.Summaries.{Summary, Environment, entries}
use Rattle.summaries.specs.Languages.{Language, graph_shown}
use Rattle.jobs.specs.Job.{Script, Job, job}
use Rattle.jobs.specs.JobVerdict.{StartHolds, StepHolds, StepsBefore, AllCovered, ShowHolds, NotRootAt, next_of}

-- An element with this mark stands in the page and is not right there.
unfoldable pub NotRightAt : Vocabulary → ℕ → Items → Type 0
unfolding SomeElement
NotRightAt D mark φ = SomeElement (λ e m δ contents. (m ≡ mark) × (ElementRight D e δ contents → ⊥)) φ

-- The verdict of a page (document 01, "Verdicts", Judge a page).
pub data PageVerdictBefore (v p : List ℕ) : Numbers → Type 0 where
  unreadable_vocabulary : {f : Form} {at : ℕ} → vocabulary_slice v ≡ refused f at
      → PageVerdictBefore v p (prints (form_number f) at 0 0)
  unreadable_page : {D : Vocabulary} {end : ℕ} {f : Form} {at : ℕ} → vocabulary_slice v ≡ whole D end → page_slice D p ≡ refused f at
      → PageVerdictBefore v p (prints (form_number f) at 1 0)
  not_root : {D : Vocabulary} {page : Items} → Readable v p D page → (RootAlone D page → ⊥) → PageVerdictBefore v p (prints 11 0 0 0)
  wrong_element : {D : Vocabulary} {page : Items} {at : ℕ} → Readable v p D page → RootAlone D page
      → NotRightAt D at page → ((at' : ℕ) → NotRightAt D at' page → at ≤ at') → PageVerdictBefore v p (prints 12 0 0 at)
  accepted : {D : Vocabulary} {page : Items} → Readable v p D page → Right D page → PageVerdictBefore v p (prints 0 0 0 0)

-- The element of template t whose `23` stands at an offset is not right in some page of the show of point p.
pub record NotRightIn (π : Script) (E : ℕ → Environment) (p t at : ℕ) : Type 0 where
  pub graph : Summary
  pub shows : graph_shown π.templates π.program E p ≡ some graph
  pub page : Items
  pub derived : Language π.templates graph page
  pub wrong : NotRightAt π.vocabulary at page
  pub stands : SomeElement (λ e mark δ φ. mark ≡ at) (template_at π.templates t)

-- The verdict of a script with the entries of all its points, and of a job (document 01, "Verdicts", Check a job).
pub data ScriptVerdictBefore (π : Script) (E : ℕ → Environment) : Numbers → Type 0 where
  start_uncovered : {v : ℕ} → v < 8 → (StartHolds π E v → ⊥) → ((v' : ℕ) → v' < v → StartHolds π E v')
      → ScriptVerdictBefore π E (prints 9 0 0 v)
  step_uncovered : {p v : ℕ} (second : Bool) → ((v' : ℕ) → v' < 8 → StartHolds π E v')
      → v < 8 → (StepHolds π E p second v → ⊥) → StepsBefore π E p second v
      → ScriptVerdictBefore π E (prints 10 p (next_of (statement_at π.program p) second) v)
  not_root : {p t : ℕ} → AllCovered π E → ((p' : ℕ) → p' < p → ShowHolds π E p')
      → NotRootAt π E p t → ((t' : ℕ) → NotRootAt π E p t' → t ≤ t')
      → ScriptVerdictBefore π E (prints 11 p t 0)
  wrong_element : {p t at : ℕ} → AllCovered π E → ((p' : ℕ) → p' < p → ShowHolds π E p')
      → ((t' : ℕ) → NotRootAt π E p t' → ⊥)
      → NotRightIn π E p t at → ((t' at' : ℕ) → NotRightIn π E p t' at' → at ≤ at')
      → ScriptVerdictBefore π E (prints 12 p t at)
  accepted : AllCovered π E → ((p : ℕ) → ShowHolds π E p) → ScriptVerdictBefore π E (prints 0 0 0 0)

pub data JobVerdictBefore (s : List ℕ) : Numbers → Type 0 where
  unreadable : {f : Form} {at : ℕ} → job s ≡ refused f at → JobVerdictBefore s (prints (form_number f) at 0 0)
  readable : {j : Job} {end : ℕ} {v : Numbers} → job s ≡ whole j end → ScriptVerdictBefore j.script (entries j.proposal) v → JobVerdictBefore s v

-- The numbers of a wrong element.
abbrev pub OfElement : ℕ → Type 0
OfElement n = (n ≡ 12) ⊎ ((n ≡ 14) ⊎ (n ≡ 15))

-- Accepted before exactly if accepted now; 12 before exactly if 12, 14 or 15 now, with the same point and offset; and all other verdicts
-- as they were.
pub record SameButElements (Before Now : Numbers → Type 0) : Type 0 where
  pub accepted : Before (prints 0 0 0 0) ↔ Now (prints 0 0 0 0)
  pub wrong : (p at : ℕ) → ((t : ℕ) × Before (prints 12 p t at)) ↔ ((n b : ℕ) × OfElement n × Now (prints n p b at))
  pub others : (v : Numbers) → (OfElement v.n → ⊥) → Before v ↔ Now v
