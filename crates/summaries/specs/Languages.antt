-- The closed graph of a show (source 000, section 5, close) and the language of a closed graph (section 3), as document 01, "Covering, and
-- the language of a show", and document 02, F-5, read them: `closed_summary` closes gaps, `takes` attribute gaps. Pages of any length and
-- depth belong to it.
use Rattle.std.specs.Prelude.{ℕ, ◌≡◌, List, [], ◌∷◌, Bool, true, false, ◌&&◌, ◌||◌, eqb}
use Rattle.std.proofs.Math.Option.{Option, some, none}
use Rattle.pages.specs.Items.{open_gap, Attribute, Item, text, blank, gap, element, Items, more, one, ◌⋈◌}
use Rattle.pages.specs.Items as Items
use Rattle.programs.specs.Program.{Act, copy_template, set_template, copy_string, set_string, any_string, plug, plug_string, show, show_framed, Statement, step, stop, statement_at, template_at}
use Rattle.programs.specs.Runs.{closing}
use Rattle.summaries.specs.Proposal.{root, edge, string, gap_from, attribute_gap_from}
use Rattle.summaries.specs.Summaries.{Summary, Environment, fragment, plug_summary}

-- close: each origin of a gap also gets an edge to template 0. The origins of an attribute gap stay: they tell where it may still be open,
-- and so where its attribute can be absent.
abbrev pub closed_summary : Summary → Summary
closed_summary S (root n) = S (root n)
closed_summary S (edge n g m) = S (edge n g m) || (eqb m 0 && S (gap_from g n))
closed_summary S (string n h s) = S (string n h s)
closed_summary S (gap_from g n) = S (gap_from g n)
closed_summary S (attribute_gap_from h n) = S (attribute_gap_from h n)

-- Whether this, a string or no string, is what closes an attribute gap that is still open.
abbrev pub is_closing : Option ℕ → Option ℕ → Bool
is_closing none none = true
is_closing none (some s) = false
is_closing (some t) none = false
is_closing (some t) (some s) = eqb s t

-- What attribute gap h of template n takes in a closed graph: the strings that the graph holds there and, if n is an origin of h, what
-- closes it. No string means that the attribute is absent (source 002, section 3: the gap may still be open, and close then removes the
-- attribute; its section 5 writes ÷ for that among the strings).
abbrev pub takes : Summary → ℕ → ℕ → Option ℕ → Bool
takes G n h none = is_closing closing none && G (attribute_gap_from h n)
takes G n h (some s) = (is_closing closing (some s) && G (attribute_gap_from h n)) || G (string n h s)

module _ (φs : List Items) (G : Summary) where
  -- G, n ⊢ δ ⇒ δ'. Source 000's section 3 prints no rule for no attributes and for a string; they stay as they are. `dropped` is the
  -- attribute that close removes: each chooses by itself, also where two have one gap.
  pub data AttributesDerive (n : ℕ) : List Attribute → List Attribute → Type 0 where
    no_attribute : AttributesDerive n [] []
    fixed : {a s : ℕ} {δ δ' : List Attribute} → AttributesDerive n δ δ'
        → AttributesDerive n (record { name = a; value = Items.string s } ∷ δ) (record { name = a; value = Items.string s } ∷ δ')
    filled : {a h : ℕ} {δ δ' : List Attribute} (s : ℕ) → takes G n h (some s) ≡ true → AttributesDerive n δ δ'
        → AttributesDerive n (record { name = a; value = open_gap h } ∷ δ) (record { name = a; value = Items.string s } ∷ δ')
    dropped : {a h : ℕ} {δ δ' : List Attribute} → takes G n h none ≡ true → AttributesDerive n δ δ'
        → AttributesDerive n (record { name = a; value = open_gap h } ∷ δ) δ'

  -- G, n ⊢ φ ⇒ φ', for lists of items and for one item. Blank text (document 02, F-2), of which section 3 knows nothing, stays as text does.
  mutual
    pub data Derives : ℕ → Items → Items → Type 0 where
      nothing : {n : ℕ} → Derives n Items.none Items.none
      item_then : {n : ℕ} {i : Item} {φ u v w : Items} → ItemDerives n i u → Derives n φ v → w ≡ u ⋈ v → Derives n (more i φ) w

    pub data ItemDerives : ℕ → Item → Items → Type 0 where
      text_stays : {n : ℕ} → ItemDerives n text (one text)
      blank_stays : {n : ℕ} → ItemDerives n blank (one blank)
      gap_filled : {n g : ℕ} {φ' : Items} (m : ℕ) → G (edge n g m) ≡ true → Derives m (template_at φs m) φ' → ItemDerives n (gap g) φ'
      element_keeps : {n e mark : ℕ} {δ δ' : List Attribute} {φ φ' : Items} → AttributesDerive n δ δ' → Derives n φ φ'
          → ItemDerives n (element e mark δ φ) (one (element e mark δ' φ'))

  -- The pages that come of a root template, and 𝓛(G).
  abbrev pub DerivedFrom : ℕ → Items → Type 0
  DerivedFrom r page = (G (root r) ≡ true) × Derives r (template_at φs r) page

  abbrev pub Language : Items → Type 0
  Language page = (r : ℕ) × DerivedFrom r page

-- The summary that a statement shows. At a show: its variable's entry. At a show in a frame (document 02, F-3): what a load of the frame's
-- template and a plug of the variable's entry into its gap give; the root is the frame's template, and the graphs join even if that
-- template lacks the gap. Elsewhere: nothing.
abbrev pub summary_shown : List Items → Act → Environment → Option Summary
summary_shown φs (copy_template x x') E = none
summary_shown φs (set_template x t) E = none
summary_shown φs (copy_string y y') E = none
summary_shown φs (set_string y s) E = none
summary_shown φs (any_string y) E = none
summary_shown φs (plug x x' g x'') E = none
summary_shown φs (plug_string x x' h y) E = none
summary_shown φs (show x) E = some (E.template x)
summary_shown φs (show_framed x t g) E = some (plug_summary g (fragment t (template_at φs t)) (E.template x))

abbrev pub closed_if_shown : Option Summary → Option Summary
closed_if_shown none = none
closed_if_shown (some S) = some (closed_summary S)

abbrev pub statement_graph : List Items → Statement → Environment → Option Summary
statement_graph φs (step a p q) E = closed_if_shown (summary_shown φs a E)
statement_graph φs stop E = none

-- The graph that a point shows: the summary shown there, closed.
unfoldable pub graph_shown : List Items → List Statement → (ℕ → Environment) → ℕ → Option Summary
unfolding statement_at
graph_shown φs program E p = statement_graph φs (statement_at program p) (E p)

-- The language of a show: that of the graph that its point shows.
abbrev pub LanguageAt : List Items → List Statement → (ℕ → Environment) → ℕ → Items → Type 0
LanguageAt φs program E p page = (G : Summary) × (graph_shown φs program E p ≡ some G) × Language φs G page
