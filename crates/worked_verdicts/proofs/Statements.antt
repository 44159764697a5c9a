-- Whether the start and a step are covered at a variable, by the items of the entries.
use Prim.Native.Nat.{ℕ}
use mathlib.Core.Path.{◌≡◌, refl}
use mathlib.Core.List.{List, [], ◌∷◌}
use mathlib.Core.Bool.{Bool, true, false, cond, not, ◌||◌, false≢true}
use lib.Dec.{eqb}
use Rattle.commands.specs.Commands.{empty_string}
use Rattle.pages.specs.Items.{Items}
use Rattle.pages.specs.Items as Items
use Rattle.programs.specs.Program.{Act, copy_template, set_template, copy_string, set_string, any_string, plug, plug_string, show, show_framed, Statement, step, Variable, template_variable, string_variable, template_at, named}
use Rattle.summaries.specs.Proposal.{Holding, one_string, Head}
use Rattle.summaries.specs.Proposal as Proposal
use Rattle.summaries.specs.Summaries.{fragment, transfer, transfer_template, transfer_string, says_claim, says_string, held, under, entries}
use Rattle.summaries.specs.Covering.{WithinAt, start_environment, StartCovered, StepCovered}
use Rattle.entries.specs.Inner.Passing.{Decides}
use Rattle.entries.proofs.Tests.{decides_map}
use Rattle.sets.proofs.Booleans.{or_left}
use Rattle.worked_verdicts.proofs.Comparing.{either_lists, WholeTemplate, ListsTemplate, entry_lists, template_within, template_within_lem, WholeString, ListsString, strings_list, string_within, string_within_lem}
use Rattle.worked_verdicts.proofs.Transferred.{fragment_items, fragment_lists, plug_items, plug_lists, fill_items, fill_lists}

-- One string, and any.
one_lists : (s : ℕ) → ListsString (λ t. eqb t s) (one_string s ∷ [])
unfolding held
one_lists s = record { complete = λ t e. or_left _ _ e; whole = (tt, tt) }

any_lists : ListsString (λ t. true) (Proposal.any_string ∷ [])
unfolding held
any_lists = record { complete = λ t e. refl; whole = ((λ t. refl), tt) }

-- What a statement gives a variable, from the items of all entries.
abbrev template_items : List Items → Act → (Variable → List Holding) → ℕ → List Holding
template_items φs (copy_template x x') E v = cond (eqb v x) (E (template_variable x')) (E (template_variable v))
template_items φs (set_template x t) E v = cond (eqb v x) (fragment_items t (template_at φs t)) (E (template_variable v))
template_items φs (copy_string y y') E v = E (template_variable v)
template_items φs (set_string y s) E v = E (template_variable v)
template_items φs (any_string y) E v = E (template_variable v)
template_items φs (plug x x' g x'') E v = cond (eqb v x) (plug_items (E (template_variable x')) (E (template_variable x''))) (E (template_variable v))
template_items φs (plug_string x x' h y) E v = cond (eqb v x) (fill_items h (E (template_variable x')) (E (string_variable y))) (E (template_variable v))
template_items φs (show x) E v = E (template_variable v)
template_items φs (show_framed x t g) E v = E (template_variable v)

abbrev string_items : Act → (Variable → List Holding) → ℕ → List Holding
string_items (copy_template x x') E v = E (string_variable v)
string_items (set_template x t) E v = E (string_variable v)
string_items (copy_string y y') E v = cond (eqb v y) (E (string_variable y')) (E (string_variable v))
string_items (set_string y s) E v = cond (eqb v y) (one_string s ∷ []) (E (string_variable v))
string_items (any_string y) E v = cond (eqb v y) (Proposal.any_string ∷ []) (E (string_variable v))
string_items (plug x x' g x'') E v = E (string_variable v)
string_items (plug_string x x' h y) E v = E (string_variable v)
string_items (show x) E v = E (string_variable v)
string_items (show_framed x t g) E v = E (string_variable v)

module _ (φs : List Items) (hs : List Head) (p : ℕ) where
  abbrev E : Variable → List Holding
  E v = under hs p v

  templates_list : (a : Act) (v : ℕ) → ListsTemplate (transfer_template φs a (entries hs p) v) (template_items φs a E v)
  unfolding entries
  templates_list (copy_template x x') v = either_lists says_claim WholeTemplate (eqb v x) _ _ _ _ (entry_lists (E (template_variable x'))) (entry_lists (E (template_variable v)))
  templates_list (set_template x t) v = either_lists says_claim WholeTemplate (eqb v x) _ _ _ _ (fragment_lists t (template_at φs t)) (entry_lists (E (template_variable v)))
  templates_list (copy_string y y') v = entry_lists (E (template_variable v))
  templates_list (set_string y s) v = entry_lists (E (template_variable v))
  templates_list (any_string y) v = entry_lists (E (template_variable v))
  templates_list (plug x x' g x'') v = either_lists says_claim WholeTemplate (eqb v x) _ _ _ _ (plug_lists g (E (template_variable x')) (E (template_variable x''))) (entry_lists (E (template_variable v)))
  templates_list (plug_string x x' h y) v = either_lists says_claim WholeTemplate (eqb v x) _ _ _ _ (fill_lists h (E (template_variable x')) (E (string_variable y))) (entry_lists (E (template_variable v)))
  templates_list (show x) v = entry_lists (E (template_variable v))
  templates_list (show_framed x t g) v = entry_lists (E (template_variable v))

  strings_listed : (a : Act) (v : ℕ) → ListsString (transfer_string a (entries hs p) v) (string_items a E v)
  unfolding entries
  strings_listed (copy_template x x') v = strings_list (E (string_variable v))
  strings_listed (set_template x t) v = strings_list (E (string_variable v))
  strings_listed (copy_string y y') v = either_lists says_string WholeString (eqb v y) _ _ _ _ (strings_list (E (string_variable y'))) (strings_list (E (string_variable v)))
  strings_listed (set_string y s) v = either_lists says_string WholeString (eqb v y) _ _ _ _ (one_lists s) (strings_list (E (string_variable v)))
  strings_listed (any_string y) v = either_lists says_string WholeString (eqb v y) _ _ _ _ any_lists (strings_list (E (string_variable v)))
  strings_listed (plug x x' g x'') v = strings_list (E (string_variable v))
  strings_listed (plug_string x x' h y) v = strings_list (E (string_variable v))
  strings_listed (show x) v = strings_list (E (string_variable v))
  strings_listed (show_framed x t g) v = strings_list (E (string_variable v))

  -- The step to a next point.
  abbrev step_within : Act → ℕ → Variable → Bool
  step_within a next (template_variable x) = template_within (transfer_template φs a (entries hs p) x) (template_items φs a E x) (under hs next (template_variable x))
  step_within a next (string_variable y) = string_within (transfer_string a (entries hs p) y) (string_items a E y) (under hs next (string_variable y))

  step_within_lem : (a : Act) (next : ℕ) (v : Variable) → Decides (step_within a next v) (WithinAt v (transfer φs a (entries hs p)) (entries hs next))
  unfolding entries
  step_within_lem a next (template_variable x) = template_within_lem _ (template_items φs a E x) (under hs next (template_variable x)) (templates_list a x)
  step_within_lem a next (string_variable y) = string_within_lem _ (string_items a E y) (under hs next (string_variable y)) (strings_listed a y)

-- The start.
abbrev start_within : List Head → Variable → Bool
start_within hs (template_variable x) = template_within (fragment 0 Items.none) (fragment_items 0 Items.none) (under hs 0 (template_variable x))
start_within hs (string_variable y) = string_within (λ t. eqb t empty_string) (one_string empty_string ∷ []) (under hs 0 (string_variable y))

start_within_lem : (hs : List Head) (v : Variable) → Decides (start_within hs v) (WithinAt v start_environment (entries hs 0))
unfolding entries
start_within_lem hs (template_variable x) = template_within_lem (fragment 0 Items.none) (fragment_items 0 Items.none) (under hs 0 (template_variable x)) (fragment_lists 0 Items.none)
start_within_lem hs (string_variable y) = string_within_lem (λ t. eqb t empty_string) (one_string empty_string ∷ []) (under hs 0 (string_variable y)) (one_lists empty_string)

-- Variables that no statement names are not looked at.
named_decides : (n b : Bool) (P : Type 0) → Decides b P → Decides (not n || b) (n ≡ true → P)
named_decides true b P d = decides_map b (λ p e. p) (λ f. f refl) d
named_decides false b P d = λ e. absurd (false≢true e)

module _ (φs : List Items) (program : List Statement) (hs : List Head) where
  unfoldable pub start_covered : Variable → Bool
  unfolding named template_within string_within fragment_items under
  start_covered v = not (named program v) || start_within hs v

  pub start_covered_lem : (v : Variable) → Decides (start_covered v) (StartCovered φs program (entries hs) v)
  unfolding start_covered
  start_covered_lem v = named_decides (named program v) (start_within hs v) _ (start_within_lem hs v)

  unfoldable pub step_covered : ℕ → Act → ℕ → Variable → Bool
  unfolding named template_within string_within fragment_items plug_items fill_items under entries
  step_covered p a next v = not (named program v) || step_within φs hs p a next v

  pub step_covered_lem : (p : ℕ) (a : Act) (next : ℕ) (v : Variable) → Decides (step_covered p a next v) (StepCovered φs program (entries hs) p a next v)
  unfolding step_covered
  step_covered_lem p a next v = named_decides (named program v) (step_within φs hs p a next v) _ (step_within_lem φs hs p a next v)
