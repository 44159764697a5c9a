-- What an element breaks of its rule in some page (document 01, verdict 12; document 02, F-5 and F-6): it can carry an attribute that is not
-- allowed; else, it can get a content that is not allowed; else, a clause fails for a choice of its attributes' strings, or of absence,
-- and a pattern of its contents. Each attribute gap takes a string or absence by itself. All of this is said of items of a template of
-- which pages come.
use Rattle.std.specs.Prelude.{ℕ, ◌^◌, List, [], ◌∷◌, Bool, cond, ◌&&◌, ◌||◌}
use Rattle.std.proofs.Math.Bool.{not}
use Rattle.std.proofs.Math.Option.{Option, some, none}
use Rattle.std.proofs.Math.ListN.{length}
use Rattle.verdicts.specs.declared.Breach.{Breach}
use Rattle.verdicts.specs.declared.Breach.TheVariants as Breaches
use Rattle.vocabularies.specs.Vocabulary.{Formula, Rule, Vocabulary, rule_of, is_in}
use Rattle.vocabularies.specs.Facts.{Fact, facts_of}
use Rattle.pages.specs.Items.{Value, string, open_gap, Attribute, Items}
use Rattle.judging.specs.Inner.Judgement.{truth_of, all_in, broken_if, or_first, first_failing}
use Rattle.summaries.specs.Summaries.{Summary}
use Rattle.summaries.specs.Languages.{takes}
use Rattle.patterns.specs.Inner.Patterns.{pattern_of, atoms_by}
use Rattle.patterns.specs.Inner.Morphisms.{fact_morphism}
use Rattle.patterns.specs.Inner.Given.{contents}
use Rattle.patterns.specs.Inner.Rounds.{Set, Sets, only, any_below, any_named, string_reaches, product, patterns}
use Rattle.patterns.specs.Inner.Reached.{contents_of}

-- The pattern of attribute a with string s alone.
abbrev pub attribute_pattern : List Fact → ℕ → ℕ → ℕ
attribute_pattern fs a s = pattern_of fs (record { name = a; value = string s } ∷ []) []

-- The pattern of no attribute, and so of one that is absent.
abbrev pub absence_pattern : List Fact → ℕ
absence_pattern fs = pattern_of fs [] []

-- The patterns of attribute a over what it can take: that of absence, those of strings, and both.
abbrev pub absence_patterns : List Fact → (Option ℕ → Bool) → Set
absence_patterns fs can x = can none && only (absence_pattern fs) x

abbrev pub string_patterns : List Fact → ℕ → (Option ℕ → Bool) → Set
string_patterns fs a can x = any_named (λ s. can (some s) && only (attribute_pattern fs a s) x)

abbrev pub taken_patterns : List Fact → ℕ → (Option ℕ → Bool) → Set
taken_patterns fs a can x = absence_patterns fs can x || string_patterns fs a can x

abbrev pub value_patterns : Summary → List Fact → ℕ → ℕ → Value → Set
value_patterns G fs n a (string s) = only (attribute_pattern fs a s)
value_patterns G fs n a (open_gap h) = taken_patterns fs a (takes G n h)

-- The patterns that attributes of template n can have.
unfoldable pub attribute_patterns : Summary → List Fact → ℕ → List Attribute → Set
unfolding any_below pattern_of
attribute_patterns G fs n [] = only (absence_pattern fs)
attribute_patterns G fs n (a ∷ δ) = product (fact_morphism fs) (value_patterns G fs n a.name a.value) (attribute_patterns G fs n δ)

-- The names of the attributes of template n that can be carried: those that some string reaches.
unfoldable pub carriable_names : Summary → ℕ → List Attribute → List ℕ
unfolding any_below
carriable_names G n [] = []
carriable_names G n (a ∷ δ) = cond (string_reaches G n a.value) (a.name ∷ carriable_names G n δ) (carriable_names G n δ)

module _ (φs : List Items) (G : Summary) where
  -- The patterns that an element of template n can have, from the clause's pattern sets.
  abbrev pub element_patterns : List Fact → Sets → ℕ → List Attribute → Items → Set
  element_patterns fs X n δ φ = product (fact_morphism fs) (attribute_patterns G fs n δ) (patterns φs G (fact_morphism fs) X n φ)

  unfoldable pub clause_fails : Formula → Sets → ℕ → List Attribute → Items → Bool
  unfolding any_below attribute_patterns patterns truth_of atoms_by
  clause_fails ψ X n δ φ = any_below (2 ^ length (facts_of ψ))
      (λ x. element_patterns (facts_of ψ) X n δ φ x && not (truth_of (atoms_by (facts_of ψ) x) ψ))

  -- The first of the clauses, the places of which count from k, that fails. X has the pattern sets of each clause.
  abbrev pub first_clause : (Formula → Sets) → ℕ → List Formula → ℕ → List Attribute → Items → Option Breach
  first_clause X k ψs n δ φ = first_failing (λ ψ. clause_fails ψ (X ψ) n δ φ) k ψs

  -- C has the contents that can stand in the pages of each template.
  unfoldable pub content_outside : Sets → List ℕ → ℕ → Items → Bool
  unfolding any_below contents_of is_in
  content_outside C allowed n φ = any_below contents (λ c. contents_of φs G C n φ c && not (is_in c allowed))

  -- An attribute, else a content, whatever the clauses say.
  unfoldable pub plain_breach : Sets → Rule → ℕ → List Attribute → Items → Option Breach
  unfolding all_in carriable_names content_outside
  plain_breach C r n δ φ = or_first (broken_if (not (all_in (carriable_names G n δ) r.attributes)) Breaches.Attribute)
      (broken_if (content_outside C r.contents n φ) Breaches.Content)

  unfoldable pub can_break_under : (Formula → Sets) → Sets → Rule → ℕ → List Attribute → Items → Option Breach
  unfolding plain_breach first_failing clause_fails
  can_break_under X C r n δ φ = or_first (plain_breach C r n δ φ) (first_clause X 0 r.clauses n δ φ)

  -- Every element that is read has a rule.
  abbrev pub can_break_by : (Formula → Sets) → Sets → Option Rule → ℕ → List Attribute → Items → Option Breach
  can_break_by X C none n δ φ = none
  can_break_by X C (some r) n δ φ = can_break_under X C r n δ φ

  -- What the element e of template n with these attributes and contents breaks in some page, if it stands in one.
  abbrev pub can_break : (Formula → Sets) → Sets → Vocabulary → ℕ → ℕ → List Attribute → Items → Option Breach
  can_break X C D n e δ φ = can_break_by X C (rule_of D.rules e) n δ φ
