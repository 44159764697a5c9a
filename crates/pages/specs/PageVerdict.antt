-- The verdict of one page under a vocabulary (document 01, "Verdicts", Judge a page): the vocabulary is read first, then the page;
-- then 11, then 12, 14 or 15 at the lowest offset of a wrong element (document 02, F-6).
use Rattle.std.specs.Prelude.{ℕ, ◌≤◌, ◌≡◌, List}
use Rattle.verdicts.specs.declared.Form.{Form}
use Rattle.verdicts.specs.declared.Numbers.{Numbers}
use Rattle.verdicts.specs.declared.Breach.{Breach}
use Rattle.verdicts.specs.declared.Fault.TheVariants.{NotRoot}
use Rattle.verdicts.specs.Printed.{prints, form_number, fault_numbers, element_fault}
use Rattle.commands.specs.Reading.{whole, refused}
use Rattle.vocabularies.specs.Vocabulary.{Vocabulary}
use Rattle.vocabularies.specs.VocabularyReading.{vocabulary_slice}
use Rattle.pages.specs.Items.{Items}
use Rattle.pages.specs.ItemReading.{page_slice}
use Rattle.pages.specs.RightPages.{RootAlone, Right, WrongAt, FirstBreach}

-- The two slices can be read, as this vocabulary and this page.
pub record Readable (v p : List ℕ) (D : Vocabulary) (page : Items) : Type 0 where
  pub vocabulary_end : ℕ
  pub page_end : ℕ
  pub vocabulary_reads : vocabulary_slice v ≡ whole D vocabulary_end
  pub page_reads : page_slice D p ≡ whole page page_end

-- The verdict as its four numbers.
pub data PageVerdict (v p : List ℕ) : Numbers → Type 0 where
  unreadable_vocabulary : {f : Form} {at : ℕ} → vocabulary_slice v ≡ refused f at
      → PageVerdict v p (prints (form_number f) at 0 0)
  unreadable_page : {D : Vocabulary} {end : ℕ} {f : Form} {at : ℕ} → vocabulary_slice v ≡ whole D end → page_slice D p ≡ refused f at
      → PageVerdict v p (prints (form_number f) at 1 0)
  not_root : {D : Vocabulary} {page : Items} → Readable v p D page → (RootAlone D page → ⊥)
      → PageVerdict v p (fault_numbers (NotRoot 0 0))
  wrong_element : {D : Vocabulary} {page : Items} {at : ℕ} {b : Breach} → Readable v p D page → RootAlone D page
      → FirstBreach (WrongAt D at page) b → ((at' : ℕ) (b' : Breach) → WrongAt D at' page b' → at ≤ at')
      → PageVerdict v p (fault_numbers (element_fault 0 0 at b))
  accepted : {D : Vocabulary} {page : Items} → Readable v p D page → Right D page → PageVerdict v p (prints 0 0 0 0)
