-- Elements that are wrong whatever the clauses say (document 01, verdict 12; document 02, F-6): an attribute that can be carried is not
-- allowed, or else a content that can stand in the element is not. A clause is told where neither is so.
use Rattle.std.specs.Prelude.{ℕ, List}
use Rattle.std.proofs.Math.Option.{Option, some, none}
use Rattle.verdicts.specs.declared.Breach.{Breach}
use Rattle.vocabularies.specs.Vocabulary.{Formula, Rule, Vocabulary, rule_of}
use Rattle.pages.specs.Items.{Attribute, Items}
use Rattle.summaries.specs.Summaries.{Summary}
use Rattle.patterns.specs.Inner.Rounds.{Sets}
use Rattle.patterns.specs.Inner.Elements.{plain_breach, first_clause}

module _ (φs : List Items) (G : Summary) where
  -- Every element that is read has a rule.
  abbrev pub plainly_by : Sets → Option Rule → ℕ → List Attribute → Items → Option Breach
  plainly_by C none n δ φ = none
  plainly_by C (some r) n δ φ = plain_breach φs G C r n δ φ

  -- The element e of template n, with these attributes and contents. C has the contents that can stand in the pages of each template.
  abbrev pub plainly_wrong : Sets → Vocabulary → ℕ → ℕ → List Attribute → Items → Option Breach
  plainly_wrong C D n e δ φ = plainly_by C (rule_of D.rules e) n δ φ

  -- The first clause of its rule that fails.
  abbrev pub clause_by : (Formula → Sets) → Option Rule → ℕ → List Attribute → Items → Option Breach
  clause_by X none n δ φ = none
  clause_by X (some r) n δ φ = first_clause φs G X 0 r.clauses n δ φ

  abbrev pub wrong_by_clause : (Formula → Sets) → Vocabulary → ℕ → ℕ → List Attribute → Items → Option Breach
  wrong_by_clause X D n e δ φ = clause_by X (rule_of D.rules e) n δ φ
