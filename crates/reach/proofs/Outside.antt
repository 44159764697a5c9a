-- The two tests of an element that is plainly wrong, by sets.
use Prim.Native.Nat.{ℕ, ◌<◌}
use mathlib.Core.Path.{◌≡◌, sym, ap, ◌∙◌}
use mathlib.Core.List.{List}
use mathlib.Core.Bool.{Bool, true, false, not, ◌&&◌, false≢true}
use Rattle.std.specs.Prelude.{None}
use Rattle.sets.specs.Sets.{member}
use Rattle.sets.specs.Inner.Promises.{MembersWithin}
use Rattle.verdicts.specs.declared.Breach.TheVariants as Breaches
use Rattle.vocabularies.specs.Vocabulary.{is_in}
use Rattle.pages.specs.Items.{Items}
use Rattle.judging.specs.Inner.Judgement.{all_in}
use Rattle.judging.proofs.Rules.{within_lists}
use Rattle.summaries.specs.Summaries.{Summary}
use Rattle.patterns.specs.Inner.Given.{contents}
use Rattle.patterns.specs.Inner.Rounds.{Sets, any_below}
use Rattle.patterns.specs.Inner.Reached.{contents_of}
use Rattle.patterns.specs.Inner.Elements.{carriable_names, content_outside, plain_breach}
use Rattle.patterns.proofs.Tests.{any_below_lem, below_any}
use Rattle.sets.proofs.Booleans.{and_both, and_left, and_right, refuted}
use Rattle.patterns.specs.Inner.LowestWrong.{At}
use Rattle.reach.specs.Inner.Walking.{TellsOutside}

module _ (φs : List Items) (G : Summary) (C : Sets) (n : ℕ) (allowed : List ℕ) (φ : Items) (inside held : ℕ)
    (is : (c : ℕ) → c < contents → member inside c ≡ contents_of φs G C n φ c) (is_held : (c : ℕ) → member held c ≡ is_in c allowed) where
  abbrev out : ℕ → Bool
  out c = contents_of φs G C n φ c && not (is_in c allowed)

  -- Every content is allowed, or one is not.
  content_test : (t : Bool) → MembersWithin inside held t → content_outside φs G C allowed n φ ≡ not t
  unfolding content_outside
  content_test true w = refuted (any_below contents out)
      (λ e.
      let (c, h, p) = below_any contents out e in
      let k : is_in c allowed ≡ true = sym (is_held c) ∙ w c (is c h ∙ and_left (contents_of φs G C n φ c) (not (is_in c allowed)) p) in
      false≢true (sym (ap not k) ∙ and_right (contents_of φs G C n φ c) (not (is_in c allowed)) p))
  content_test false (c, h, p, q) = any_below_lem contents out c h (and_both _ _ (sym (is c h) ∙ p) (ap not (sym (is_held c) ∙ q)))

module _ (n at named allowed inside held : ℕ) where
  pub names_outside : (t : Bool) → MembersWithin named allowed t → t ≡ false → TellsOutside n at named allowed inside held (At n at Breaches.Attribute)
  unfolding plain_breach
  names_outside t w e φs G C R δ φ c =
      let a : all_in (carriable_names G n δ) R.attributes ≡ false = within_lists named allowed (carriable_names G n δ) R.attributes c.has_names c.allows t w ∙ e in
      rw a

  pub content_outside_lem : (t u : Bool) → MembersWithin named allowed t → t ≡ true → MembersWithin inside held u → u ≡ false → TellsOutside n at named allowed inside held (At n at Breaches.Content)
  unfolding plain_breach
  content_outside_lem t u w e v q φs G C R δ φ c =
      let a : all_in (carriable_names G n δ) R.attributes ≡ true = within_lists named allowed (carriable_names G n δ) R.attributes c.has_names c.allows t w ∙ e in
      let b : content_outside φs G C R.contents n φ ≡ true = content_test φs G C n R.contents φ inside held c.has_contents c.holds u v ∙ ap not q in
      rw (a, b)

  pub none_outside : (t u : Bool) → MembersWithin named allowed t → t ≡ true → MembersWithin inside held u → u ≡ true → TellsOutside n at named allowed inside held None
  unfolding plain_breach
  none_outside t u w e v q φs G C R δ φ c =
      let a : all_in (carriable_names G n δ) R.attributes ≡ true = within_lists named allowed (carriable_names G n δ) R.attributes c.has_names c.allows t w ∙ e in
      let b : content_outside φs G C R.contents n φ ≡ false = content_test φs G C n R.contents φ inside held c.has_contents c.holds u v ∙ ap not q in
      rw (a, b)
