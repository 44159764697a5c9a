-- The judgement of a page, computed: section 6 of source 000 as tests. That it agrees with the relation of `RightPages`, and with
-- `PageVerdict`, is proved, both ways.
use Rattle.std.specs.Prelude.{ℕ, suc, List, [], ◌∷◌, Bool, true, false, cond, not, ◌&&◌, ◌||◌, eqb}
use Rattle.std.specs.Prelude as Values
use Rattle.std.specs.Prelude.{Some, None}
use Rattle.std.specs.Option.{option_or}
use Rattle.std.proofs.Math.Option.{Option, some, none}
use Rattle.sets.specs.Sets.{member}
use Rattle.verdicts.specs.declared.Breach.{Breach}
use Rattle.verdicts.specs.declared.Breach.TheVariants as Breaches
use Rattle.verdicts.specs.declared.Fault.TheVariants.{NotRoot}
use Rattle.verdicts.specs.declared.Refusal.TheVariants as Refusals
use Rattle.verdicts.specs.declared.Verdict.{Verdict}
use Rattle.verdicts.specs.declared.Verdict.TheVariants.{Accepted, Refused}
use Rattle.verdicts.specs.Printed.{element_fault}
use Rattle.commands.specs.Reading.{Read, whole, refused, unfinished}
use Rattle.vocabularies.specs.Vocabulary.{Formula, conj, disj, neg, truth, attr, content, order, value, Rule, Vocabulary, rule_of, is_in}
use Rattle.vocabularies.specs.VocabularyReading.{vocabulary_slice}
use Rattle.pages.specs.Items.{Value, string, open_gap, Attribute, Item, text, blank, gap, element, Items, more, without_blank}
use Rattle.pages.specs.ItemReading.{page_slice}
use Rattle.pages.specs.RightPages.{names, word}
use Rattle.judging.specs.declared.WrongElement.{WrongElement}

-- The truth of a formula's atoms, from which the formula's follows.
pub record Atoms : Type 0 where
  pub attr : ℕ → Bool
  pub content : ℕ → Bool
  pub order : ℕ → ℕ → Bool
  pub value : ℕ → ℕ → Bool

unfoldable pub truth_of : Atoms → Formula → Bool
truth_of A (conj ψ₁ ψ₂) = truth_of A ψ₁ && truth_of A ψ₂
truth_of A (disj ψ₁ ψ₂) = truth_of A ψ₁ || truth_of A ψ₂
truth_of A (neg ψ) = not (truth_of A ψ)
truth_of A truth = true
truth_of A (attr a) = A.attr a
truth_of A (content c) = A.content c
truth_of A (order c d) = A.order c d
truth_of A (value a m) = A.value a m

-- Some d stands before a c in the word.
unfoldable pub precedes : List ℕ → ℕ → ℕ → Bool
unfolding is_in
precedes [] d c = false
precedes (x ∷ w) d c = (eqb x d && is_in c w) || precedes w d c

abbrev pub has_string : Value → ℕ → Bool
has_string (string s) m = member m s
has_string (open_gap h) m = false

-- Some attribute a has a string of the set m.
unfoldable pub holds_value : List Attribute → ℕ → ℕ → Bool
holds_value [] a m = false
holds_value (x ∷ δ) a m = (eqb x.name a && has_string x.value m) || holds_value δ a m

-- The atoms of an element with these attributes and this word of contents. The value test looks at absence first.
unfoldable pub atoms_of : List Attribute → List ℕ → Atoms
unfolding is_in precedes holds_value
atoms_of δ w = record {
  attr = λ a. is_in a (names δ);
  content = λ c. is_in c w;
  order = λ c d. not (precedes w d c);
  value = λ a m. not (is_in a (names δ)) || holds_value δ a m;
}

unfoldable pub all_in : List ℕ → List ℕ → Bool
unfolding is_in
all_in [] allowed = true
all_in (n ∷ ns) allowed = is_in n allowed && all_in ns allowed

-- What is broken, if the test tells so; and the first of two.
abbrev pub broken_if : Bool → Breach → Option Breach
broken_if t b = cond t (some b) none

abbrev pub or_first : Option Breach → Option Breach → Option Breach
or_first (some b) o = some b
or_first none o = o

-- The first of the clauses, the places of which count from k, that fails by a test.
unfoldable pub first_failing : (Formula → Bool) → ℕ → List Formula → Option Breach
first_failing fails k [] = none
first_failing fails k (ψ ∷ ψs) = or_first (broken_if (fails ψ) (Breaches.Clause k)) (first_failing fails (suc k) ψs)

-- By these atoms a formula is not true.
abbrev pub is_false : Atoms → Formula → Bool
is_false A ψ = not (truth_of A ψ)

-- What an element with these attributes and this word of contents breaks of a rule: an attribute, else a content, else a clause.
unfoldable pub breach_under : Rule → List Attribute → List ℕ → Option Breach
unfolding all_in first_failing truth_of atoms_of
breach_under r δ w = or_first
    (or_first (broken_if (not (all_in (names δ) r.attributes)) Breaches.Attribute) (broken_if (not (all_in w r.contents)) Breaches.Content))
    (first_failing (is_false (atoms_of δ w)) 0 r.clauses)

-- Every element that is read has a rule.
abbrev pub breach_by : Option Rule → List Attribute → List ℕ → Option Breach
breach_by none δ w = none
breach_by (some r) δ w = breach_under r δ w

-- The first wrong element of a page or of a part of it, if there is one.
abbrev pub FirstWrong : Type 0
FirstWrong = Values.Option WrongElement

-- The first of two parts, one after the other; and that of an element at a mark: itself, or what is wrong inside it.
abbrev pub or_else : FirstWrong → FirstWrong → FirstWrong
or_else = option_or

abbrev pub of_element : Option Breach → ℕ → FirstWrong → FirstWrong
of_element (some b) mark inside = Some (record { at = mark; breach = b })
of_element none mark inside = inside

-- The first wrong element, an element before those in it. Marks rise in that order, so it is the lowest.
unfoldable mutual
  unfolding breach_under word

  pub first_wrong : Vocabulary → Items → FirstWrong
  first_wrong D Items.none = None
  first_wrong D (more i φ) = or_else (first_wrong_item D i) (first_wrong D φ)

  pub first_wrong_item : Vocabulary → Item → FirstWrong
  first_wrong_item D text = None
  first_wrong_item D blank = None
  first_wrong_item D (gap g) = None
  first_wrong_item D (element e mark δ φ) = of_element (breach_by (rule_of D.rules e) δ (word φ)) mark (first_wrong D φ)

abbrev pub is_element : ℕ → Item → Bool
is_element e text = false
is_element e blank = false
is_element e (gap g) = false
is_element e (element e' mark δ φ) = eqb e' e

abbrev pub is_none : Items → Bool
is_none Items.none = true
is_none (more i φ) = false

abbrev pub is_only : ℕ → Items → Bool
is_only e Items.none = false
is_only e (more i φ) = is_element e i && is_none φ

-- One element of this name, and no other item but blank text.
abbrev pub is_alone : ℕ → Items → Bool
is_alone e φ = is_only e (without_blank φ)

abbrev pub wrong_verdict : FirstWrong → Verdict
wrong_verdict None = Accepted
wrong_verdict (Some wrong) = Refused (Refusals.Page (element_fault 0 0 wrong.at wrong.breach))

-- The verdict of a page that was read under a vocabulary that was read. Reading never ends unfinished (`agreement`, Ends); if it did,
-- nothing would be accepted.
abbrev pub judged : Vocabulary → Read Items → Verdict
judged D (whole φ end) = cond (is_alone D.root φ) (wrong_verdict (first_wrong D φ)) (Refused (Refusals.Page (NotRoot 0 0)))
judged D (refused f at) = Refused (Refusals.Form f (record { at = at; slice = 1 }))
judged D unfinished = Refused (Refusals.Page (NotRoot 0 0))

abbrev pub judged_under : Read Vocabulary → List ℕ → Verdict
judged_under (whole D end) p = judged D (page_slice D p)
judged_under (refused f at) p = Refused (Refusals.Form f (record { at = at; slice = 0 }))
judged_under unfinished p = Refused (Refusals.Page (NotRoot 0 0))

unfoldable pub page_verdict : List ℕ → List ℕ → Verdict
unfolding vocabulary_slice page_slice first_wrong
page_verdict v p = judged_under (vocabulary_slice v) p
