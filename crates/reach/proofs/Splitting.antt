-- What an element breaks is what it breaks plainly, or else the first clause that fails.
use Prim.Native.Nat.{ℕ}
use mathlib.Core.Path.{◌≡◌, refl}
use mathlib.Core.List.{List}
use mathlib.Core.Option.{Option, some, none}
use Rattle.vocabularies.specs.Vocabulary.{Formula, Rule, Vocabulary, rule_of}
use Rattle.pages.specs.Items.{Attribute, Items}
use Rattle.judging.specs.Inner.Judgement.{or_first}
use Rattle.summaries.specs.Summaries.{Summary}
use Rattle.patterns.specs.Inner.Rounds.{Sets}
use Rattle.patterns.specs.Inner.Elements.{can_break_under, can_break_by, can_break}
use Rattle.reach.specs.Inner.PlainlyWrong.{plainly_by, plainly_wrong, clause_by, wrong_by_clause}

module _ (φs : List Items) (G : Summary) (X : Formula → Sets) (C : Sets) where
  by_split : (o : Option Rule) (n : ℕ) (δ : List Attribute) (φ : Items)
      → can_break_by φs G X C o n δ φ ≡ or_first (plainly_by φs G C o n δ φ) (clause_by φs G X o n δ φ)
  unfolding can_break_under
  by_split none n δ φ = refl
  by_split (some r) n δ φ = refl

  module _ (D : Vocabulary) (n : ℕ) where
    pub breach_split : (e : ℕ) (δ : List Attribute) (φ : Items)
        → can_break φs G X C D n e δ φ ≡ or_first (plainly_wrong φs G C D n e δ φ) (wrong_by_clause φs G X D n e δ φ)
    breach_split e δ φ = by_split (rule_of D.rules e) n δ φ
