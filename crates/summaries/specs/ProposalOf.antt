-- The proposal that says what the smallest entries hold (document 02, F-1): heads rise, and stand only where an item follows; items rise by
-- command, then operands; "any string" stands without listed strings beside it. Gaps are 0 to 7, variables as `40` numbers them.
use Rattle.std.specs.Prelude.{ℕ, zero, suc, List, [], ◌∷◌, ◌++◌, Bool, cond, not, ◌&&◌}
use Rattle.commands.specs.Commands.{strings}
use Rattle.programs.specs.Program.{Variable, template_variable, string_variable}
use Rattle.summaries.specs.Proposal.{root, edge, string, gap_from, attribute_gap_from, Holding, claim, any_at, one_string, any_string, Head}
use Rattle.summaries.specs.ProposalReading.{variable_of}
use Rattle.summaries.specs.Summaries.{Summary, Strings, Environment}

-- f 0, then f 1, and so on up to the last number below n.
unfoldable pub each : {A : Type 0} → ℕ → (ℕ → List A) → List A
each zero f = []
each (suc n) f = each n f ++ f n

-- An item, where it is held.
abbrev pub where_held : Bool → Holding → List Holding
where_held held y = cond held (y ∷ []) []

-- The first string that no item can list: the smallest entries hold it exactly where they hold every string.
abbrev pub unlisted : ℕ
unlisted = strings

-- The items of a template variable, where this many templates are, besides template 0: `41` to `46`.
module _ (templates : ℕ) (S : Summary) where
  abbrev pub root_items : List Holding
  root_items = each (suc templates) λ t. where_held (S (root t)) (claim (root t))

  abbrev pub edge_items : List Holding
  edge_items = each (suc templates) λ n. each 8 λ g. each (suc templates) λ t. where_held (S (edge n g t)) (claim (edge n g t))

  abbrev pub string_items : List Holding
  string_items = each (suc templates) λ n. each 8 λ h. each strings λ s.
      where_held (S (string n h s) && not (S (string n h unlisted))) (claim (string n h s))

  abbrev pub any_items : List Holding
  any_items = each (suc templates) λ n. each 8 λ h. where_held (S (string n h unlisted)) (any_at n h)

  abbrev pub gap_items : List Holding
  gap_items = each 8 λ g. each (suc templates) λ n. where_held (S (gap_from g n)) (claim (gap_from g n))

  abbrev pub attribute_gap_items : List Holding
  attribute_gap_items = each 8 λ h. each (suc templates) λ n. where_held (S (attribute_gap_from h n)) (claim (attribute_gap_from h n))

  unfoldable pub template_items : List Holding
  unfolding each
  template_items = root_items ++ edge_items ++ string_items ++ any_items ++ gap_items ++ attribute_gap_items

-- The items of a string variable: `47` and `48`.
unfoldable pub variable_strings : Strings → List Holding
unfolding each
variable_strings Y = each strings (λ s. where_held (Y s && not (Y unlisted)) (one_string s)) ++ where_held (Y unlisted) any_string

abbrev pub items_of : ℕ → Environment → Variable → List Holding
items_of templates E (template_variable x) = template_items templates (E.template x)
items_of templates E (string_variable y) = variable_strings (E.string y)

-- A head, where an item follows.
abbrev pub headed : ℕ → Variable → List Holding → List Head
headed p v [] = []
headed p v (y ∷ ys) = record { point = p; variable = v; holdings = y ∷ ys } ∷ []

-- The proposal of a program with these numbers of templates and points.
unfoldable pub proposal_of : ℕ → ℕ → (ℕ → Environment) → List Head
unfolding each template_items variable_strings
proposal_of templates points E = each points λ p. each 8 λ v. headed p (variable_of v) (items_of templates (E p) (variable_of v))
