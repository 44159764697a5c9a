-- Summaries and their transfer functions (source 000, sections 3 to 5, as document 01, "Covering, and the language of a show", reads
-- them). A summary of a template variable is a summary graph (R, E, α) with the gap track τ of its gaps, given by what it holds;
-- `string n h s` says that string s is in α(n, h), and • holds every string. A summary of a string variable is the set of its strings.
use Rattle.std.specs.Prelude.{ℕ, ◌≡◌, List, [], ◌∷◌, Bool, true, false, cond, ◌&&◌, ◌||◌, eqb}
use Rattle.pages.specs.Items.{Items, gap_in, attribute_gap_in}
use Rattle.programs.specs.Program.{Act, copy_template, set_template, copy_string, set_string, any_string, plug, plug_string, show, show_framed, Variable, template_variable, string_variable, template_at}
use Rattle.programs.specs.Runs.{update}
use Rattle.summaries.specs.Proposal.{Claim, root, edge, string, gap_from, attribute_gap_from, Holding, claim, any_at, one_string, Head}
use Rattle.summaries.specs.Proposal as Proposal

abbrev pub Summary : Type 0
Summary = Claim → Bool

abbrev pub Strings : Type 0
Strings = ℕ → Bool

-- The summaries of all variables at a point.
pub record Environment : Type 0 where
  pub template : ℕ → Summary
  pub string : ℕ → Strings

-- ⊑: what the one holds the other holds.
abbrev pub Within : {A : Type 0} → (A → Bool) → (A → Bool) → Type 0
Within {A} S T = (a : A) → S a ≡ true → T a ≡ true

-- frag(n) and tfrag(φ, n).
abbrev pub fragment : ℕ → Items → Summary
fragment n φ (root m) = eqb m n
fragment n φ (edge m g k) = false
fragment n φ (string m h s) = false
fragment n φ (gap_from g m) = eqb m n && gap_in φ g
fragment n φ (attribute_gap_from h m) = eqb m n && attribute_gap_in φ h

-- gplug and tplug: edges from the origins of g to the roots plugged in, the graphs joined, g's origins those of the value plugged
-- in alone.
abbrev pub plug_summary : ℕ → Summary → Summary → Summary
plug_summary g S T (root n) = S (root n)
plug_summary g S T (edge n k m) = S (edge n k m) || T (edge n k m) || (eqb k g && S (gap_from k n) && T (root m))
plug_summary g S T (string n h s) = S (string n h s) || T (string n h s)
plug_summary g S T (gap_from k n) = cond (eqb k g) (T (gap_from k n)) (S (gap_from k n) || T (gap_from k n))
plug_summary g S T (attribute_gap_from h n) = S (attribute_gap_from h n) || T (attribute_gap_from h n)

-- hplug and tplug at an attribute gap: the strings at h alone in h's origins, as document 01 has it (section 5 prints every attribute
-- gap of those templates), and no origin of h left.
abbrev pub plug_string_summary : ℕ → Summary → Strings → Summary
plug_string_summary h S Y (root n) = S (root n)
plug_string_summary h S Y (edge n g m) = S (edge n g m)
plug_string_summary h S Y (string n k s) = S (string n k s) || (eqb k h && S (attribute_gap_from k n) && Y s)
plug_string_summary h S Y (gap_from g n) = S (gap_from g n)
plug_string_summary h S Y (attribute_gap_from k n) = cond (eqb k h) false (S (attribute_gap_from k n))

module _ (φs : List Items) where
  -- The transfer function of each statement on the template variables; a show, in a frame or not, and the statements on strings leave
  -- them.
  abbrev pub transfer_template : Act → Environment → ℕ → Summary
  transfer_template (copy_template x x') E = update x (E.template x') E.template
  transfer_template (set_template x t) E = update x (fragment t (template_at φs t)) E.template
  transfer_template (copy_string y y') E = E.template
  transfer_template (set_string y s) E = E.template
  transfer_template (any_string y) E = E.template
  transfer_template (plug x x' g x'') E = update x (plug_summary g (E.template x') (E.template x'')) E.template
  transfer_template (plug_string x x' h y) E = update x (plug_string_summary h (E.template x') (E.string y)) E.template
  transfer_template (show x) E = E.template
  transfer_template (show_framed x t g) E = E.template

abbrev pub transfer_string : Act → Environment → ℕ → Strings
transfer_string (copy_template x x') E = E.string
transfer_string (set_template x t) E = E.string
transfer_string (copy_string y y') E = update y (E.string y') E.string
transfer_string (set_string y s) E = update y (λ t. eqb t s) E.string
transfer_string (any_string y) E = update y (λ t. true) E.string
transfer_string (plug x x' g x'') E = E.string
transfer_string (plug_string x x' h y) E = E.string
transfer_string (show x) E = E.string
transfer_string (show_framed x t g) E = E.string

abbrev pub transfer : List Items → Act → Environment → Environment
transfer φs a E = record { template = transfer_template φs a E; string = transfer_string a E }

-- A claim as numbers, by which two are compared.
abbrev pub claim_code : Claim → List ℕ
claim_code (root n) = 1 ∷ n ∷ []
claim_code (edge n g m) = 2 ∷ n ∷ g ∷ m ∷ []
claim_code (string n h s) = 3 ∷ n ∷ h ∷ s ∷ []
claim_code (gap_from g n) = 4 ∷ g ∷ n ∷ []
claim_code (attribute_gap_from h n) = 5 ∷ h ∷ n ∷ []

unfoldable pub same_code : List ℕ → List ℕ → Bool
same_code [] [] = true
same_code [] (b ∷ bs) = false
same_code (a ∷ ns) [] = false
same_code (a ∷ ns) (b ∷ bs) = eqb a b && same_code ns bs

abbrev pub is_string_at : ℕ → ℕ → Claim → Bool
is_string_at n h (root m) = false
is_string_at n h (edge m g k) = false
is_string_at n h (string m k s) = eqb m n && eqb k h
is_string_at n h (gap_from g m) = false
is_string_at n h (attribute_gap_from k m) = false

-- What an item says: of a template variable, and of a string variable.
abbrev pub says_claim : Holding → Claim → Bool
says_claim (claim c) d = same_code (claim_code c) (claim_code d)
says_claim (any_at n h) d = is_string_at n h d
says_claim (one_string s) d = false
says_claim Proposal.any_string d = false

abbrev pub says_string : Holding → ℕ → Bool
says_string (claim c) s = false
says_string (any_at n h) s = false
says_string (one_string t) s = eqb s t
says_string Proposal.any_string s = true

-- What some item of a list says.
unfoldable pub held : {A : Type 0} → (Holding → A → Bool) → List Holding → A → Bool
held says [] a = false
held says (x ∷ xs) a = says x a || held says xs a

abbrev pub same_variable : Variable → Variable → Bool
same_variable (template_variable x) (template_variable y) = eqb x y
same_variable (template_variable x) (string_variable y) = false
same_variable (string_variable x) (template_variable y) = false
same_variable (string_variable x) (string_variable y) = eqb x y

-- What stands under the head of a variable at a point; no head: nothing.
unfoldable pub under : List Head → ℕ → Variable → List Holding
under [] p v = []
under (h ∷ hs) p v = cond (eqb h.point p && same_variable h.variable v) h.holdings (under hs p v)

-- The entries of all variables at a point.
unfoldable pub entries : List Head → ℕ → Environment
unfolding held under
entries hs p = record { template = λ x. held says_claim (under hs p (template_variable x)); string = λ y. held says_string (under hs p (string_variable y)) }
