-- An entry of the work area gets more: what the entries of all points are then.
use Prim.Native.Nat.{ℕ, ◌<◌}
use mathlib.Core.Path.{◌≡◌, refl, sym, ap, ◌∙◌}
use mathlib.Core.List.{List}
use mathlib.Core.Logic.{◌⊎◌, inl, inr}
use mathlib.Core.Bool.{Bool, true, false, ◌&&◌, ◌||◌, false≢true}
use lib.Dec.{eqb}
use borrow.Author.Tests.{eqb-true, eqb-false}
use Rattle.strings.specs.declared.Values.{Values}
use Rattle.strings.specs.Inner.Promises.{holds_value}
use Rattle.programs.specs.Program.{Variable, template_variable, string_variable}
use Rattle.summaries.specs.Proposal.{Claim}
use Rattle.summaries.specs.Summaries.{Summary, Environment, Within}
use Rattle.summaries.specs.Covering.{WithinAt}
use Rattle.graphs.specs.Inner.Graphs.{holds, Keeps}
use Rattle.sets.proofs.Booleans.{or_left, or_right, or_cases, refuted}
use Rattle.states.specs.Inner.States.{in_words, entries_in}
use Rattle.states.specs.Inner.Promises.{GraphJoined, ValuesJoined}
use Rattle.states.proofs.Entries.{words_in}
use Rattle.least_entries.specs.Inner.Order.{Below}
use Rattle.least_entries.proofs.Monotone.{below_refl}
use Rattle.solver.specs.Inner.Flows.{Joins}
use Rattle.solver.specs.Inner.Work.{Entered}

-- ---- one entry of all points

either : (q p z x : ℕ) → ((q ≡ p) × (z ≡ x)) ⊎ ((q ≡ p) × (z ≡ x) → ⊥)
either q p z x = go (eqb q p) refl (eqb z x) refl
  where
    go : (t : Bool) → eqb q p ≡ t → (u : Bool) → eqb z x ≡ u → ((q ≡ p) × (z ≡ x)) ⊎ ((q ≡ p) × (z ≡ x) → ⊥)
    go true e true f = inl (eqb-true q p e, eqb-true z x f)
    go true e false f = inr (λ b. eqb-false z x f b.1)
    go false e u f = inr (λ b. eqb-false q p e b.0)

module _ (E E' : ℕ → Environment) (p x : ℕ) (G : Environment) where
  module _ (here : (c : Claim) → (E' p).template x c ≡ ((E p).template x c || G.template x c))
      (others : (q z : ℕ) → ((q ≡ p) × (z ≡ x) → ⊥) → (c : Claim) → (E' q).template z c ≡ (E q).template z c)
      (strings : (q y s : ℕ) → (E' q).string y s ≡ (E q).string y s) where
    template_up : (q z : ℕ) → Within ((E q).template z) ((E' q).template z)
    template_up q z c e = elim (either q p z x) [
      | inl b ↦ rw (b.0, b.1) (here c ∙ or_left _ _ (rw (b.0, b.1) at e))
      | inr n ↦ others q z n c ∙ e
    ]

    template_least : (F : ℕ → Environment) → ((q : ℕ) → Below (E q) (F q)) → Within (G.template x) ((F p).template x) → (q z : ℕ) → Within ((E' q).template z) ((F q).template z)
    template_least F b g q z c e = elim (either q p z x) [
      | inl k ↦ rw (k.0, k.1) (elim (or_cases ((E p).template x c) (G.template x c) (sym (here c) ∙ (rw (k.0, k.1) at e))) [
        | inl h ↦ b p (template_variable x) c h
        | inr h ↦ g c h
      ])
      | inr n ↦ b q (template_variable z) c (sym (others q z n c) ∙ e)
    ]

    pub template_joins : Joins E E' p (template_variable x) G
    template_joins = record { grows = up; others = kept; made = λ c e. here c ∙ or_right ((E p).template x c) _ e; least = least }
      where
        up : (q : ℕ) → Below (E q) (E' q)
        up q (template_variable z) = template_up q z
        up q (string_variable y) = λ s e. strings q y s ∙ e

        kept : (q : ℕ) (w : Variable) → ((q ≡ p) × (w ≡ template_variable x) → ⊥) → WithinAt w (E' q) (E q)
        kept q (template_variable z) n = λ c e. sym (others q z (λ b. n (b.0, ap template_variable b.1)) c) ∙ e
        kept q (string_variable y) n = λ s e. sym (strings q y s) ∙ e

        least : (F : ℕ → Environment) → ((q : ℕ) → Below (E q) (F q)) → WithinAt (template_variable x) G (F p) → (q : ℕ) → Below (E' q) (F q)
        least F b g q (template_variable z) = template_least F b g q z
        least F b g q (string_variable y) = λ s e. b q (string_variable y) s (sym (strings q y s) ∙ e)

  module _ (here : (s : ℕ) → (E' p).string x s ≡ ((E p).string x s || G.string x s))
      (others : (q z : ℕ) → ((q ≡ p) × (z ≡ x) → ⊥) → (s : ℕ) → (E' q).string z s ≡ (E q).string z s)
      (templates : (q y : ℕ) (c : Claim) → (E' q).template y c ≡ (E q).template y c) where
    string_up : (q z : ℕ) → Within ((E q).string z) ((E' q).string z)
    string_up q z s e = elim (either q p z x) [
      | inl b ↦ rw (b.0, b.1) (here s ∙ or_left _ _ (rw (b.0, b.1) at e))
      | inr n ↦ others q z n s ∙ e
    ]

    string_least : (F : ℕ → Environment) → ((q : ℕ) → Below (E q) (F q)) → Within (G.string x) ((F p).string x) → (q z : ℕ) → Within ((E' q).string z) ((F q).string z)
    string_least F b g q z s e = elim (either q p z x) [
      | inl k ↦ rw (k.0, k.1) (elim (or_cases ((E p).string x s) (G.string x s) (sym (here s) ∙ (rw (k.0, k.1) at e))) [
        | inl h ↦ b p (string_variable x) s h
        | inr h ↦ g s h
      ])
      | inr n ↦ b q (string_variable z) s (sym (others q z n s) ∙ e)
    ]

    pub string_joins : Joins E E' p (string_variable x) G
    string_joins = record { grows = up; others = kept; made = λ s e. here s ∙ or_right ((E p).string x s) _ e; least = least }
      where
        up : (q : ℕ) → Below (E q) (E' q)
        up q (template_variable y) = λ c e. templates q y c ∙ e
        up q (string_variable z) = string_up q z

        kept : (q : ℕ) (w : Variable) → ((q ≡ p) × (w ≡ string_variable x) → ⊥) → WithinAt w (E' q) (E q)
        kept q (template_variable y) n = λ c e. sym (templates q y c) ∙ e
        kept q (string_variable z) n = λ s e. sym (others q z (λ b. n (b.0, ap string_variable b.1)) s) ∙ e

        least : (F : ℕ → Environment) → ((q : ℕ) → Below (E q) (F q)) → WithinAt (string_variable x) G (F p) → (q : ℕ) → Below (E' q) (F q)
        least F b g q (template_variable y) = λ c e. b q (template_variable y) c (sym (templates q y c) ∙ e)
        least F b g q (string_variable z) = string_least F b g q z

-- ---- joined in the work area

-- What a graph holds, where all of it has words.
pub graph_said : (made : List ℕ) (S : Summary) → Keeps made S → ((c : Claim) → S c ≡ true → in_words c ≡ true) → (c : Claim) → (in_words c && holds made c) ≡ S c
graph_said made S K w c = go (in_words c) refl
  where
    go : (t : Bool) → in_words c ≡ t → (in_words c && holds made c) ≡ S c
    go true e = rw e (sym (K.same c (words_in c e)))
    go false e = rw e (sym (refuted _ (λ h. false≢true (sym e ∙ w c h))))

same_below : (points : ℕ) (before after : List ℕ) → after ≡ before → (q : ℕ) → Below (entries_in points after q) (entries_in points before q)
same_below points before after e q = rw e (below_refl (entries_in points before q))

module _ (points : ℕ) (before : List ℕ) (p : ℕ) (low : p < points) (after : List ℕ) (changed : Bool) (G : Environment) where
  pub template_entered : (x : ℕ) (from : List ℕ) → ((c : Claim) → (in_words c && holds from c) ≡ G.template x c) → GraphJoined before p x from after changed → Entered points before p (template_variable x) G after changed
  template_entered x from said J = record {
    joins = template_joins (entries_in points before) (entries_in points after) p x G (λ c. J.here points low c ∙ rw (said c)) (J.others points) (J.strings points);
    same = λ e. same_below points before after (J.grows.unchanged e);
  }

  pub string_entered : (y : ℕ) (values : Values) → ((s : ℕ) → holds_value values s ≡ G.string y s) → ValuesJoined before p y values after changed → Entered points before p (string_variable y) G after changed
  string_entered y values said J = record {
    joins = string_joins (entries_in points before) (entries_in points after) p y G (λ s. J.here points low s ∙ rw (said s)) (J.others points) (J.templates points);
    same = λ e. same_below points before after (J.grows.unchanged e);
  }
