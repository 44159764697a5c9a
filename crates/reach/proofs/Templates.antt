-- Every template: its lowest element that is plainly wrong.
use Prim.Native.Nat.{ℕ, zero, suc, ◌+◌, ◌-◌, ◌≤◌, ◌<◌}
use native.Mathlib.Omega.{arith}
use mathlib.Core.Path.{◌≡◌, refl, sym, ap, ◌∙◌}
use mathlib.Core.List.{List, [], ◌∷◌}
use mathlib.Core.Bool.{true, false}
use mathlib.Core.Logic.{◌⊎◌, ⊎_elim}
use lib.ListN.{length, get_or}
use Rattle.std.specs.Prelude.{None}
use Rattle.sets.specs.Sets.{member}
use Rattle.commands.specs.Reading.{whole}
use Rattle.vocabularies.specs.declared.Rule as Tabled
use Rattle.vocabularies.specs.declared.Tables.{Tables}
use Rattle.vocabularies.specs.Vocabulary.{Vocabulary, declared}
use Rattle.vocabularies.specs.Inner.Promises.{Describes}
use Rattle.pages.specs.Items.{Items, none}
use Rattle.pages.specs.Inner.Promises.{Located}
use Rattle.programs.specs.Program.{template_at}
use Rattle.summaries.specs.Summaries.{Summary}
use Rattle.patterns.specs.Inner.Rounds.{Sets}
use Rattle.patterns.specs.Inner.LowestWrong.{MaybeWrong, lower_wrong, LowestWrong}
use Rattle.patterns.proofs.LowestOf.{Below, looked_none, looked_past, looked_more, looked_all}
use Rattle.reach.specs.Inner.PlainlyWrong.{plainly_wrong}
use Rattle.reach.specs.Inner.Promises.{GraphKept}
use Rattle.reach.specs.Inner.Walking.{RulesKept, ContentsKept, TellsWrongIn, TellsPlainlyWrong}

-- Template 0 is empty, and the others stand in the list from its first place on.
pub template_none : (φs : List Items) → template_at φs 0 ≡ none
unfolding template_at
template_none [] = refl
template_none (φ ∷ φs) = refl

template_listed : (φs : List Items) (t : ℕ) → 1 ≤ t → template_at φs t ≡ get_or φs (t - 1) none
unfolding template_at
template_listed [] t l = refl
template_listed (φ ∷ φs) zero l = absurd (omega arith)
template_listed (φ ∷ φs) (suc zero) l = refl
template_listed (φ ∷ φs) (suc (suc t)) l =
    let a : suc (suc t) - 1 ≡ suc t = omega arith in
    let b : suc t - 1 ≡ t = omega arith in
    rw a (rw b at (template_listed φs (suc t) (omega arith)))

-- The tables of a vocabulary that was read.
pub rules_kept : (s : List ℕ) (D : Vocabulary) (t : Tables) → Describes s D t → RulesKept D t.rules
rules_kept s D t d = record { allows = λ e r h. (d.rule e r h).allows; holds = λ e r h. (d.rule e r h).holds }

module _ (s : List ℕ) (rules_in : List Tabled.Rule) (starts : List ℕ) (count : ℕ) (graph within : List ℕ) (reached : ℕ) where
  -- The templates below t have been looked at.
  abbrev pub Looked : ℕ → MaybeWrong → Type 0
  Looked t w = (φs : List Items) (G : Summary) (C : Sets) (D : Vocabulary) → GraphKept φs G graph count → RulesKept D rules_in
      → Located (declared D.rules) s φs count starts → ContentsKept φs C within
      → LowestWrong (Below φs reached (λ n e mark δ φ. plainly_wrong φs G C D n e δ φ) t) w

  pub looked_begin : Looked 1 None
  looked_begin φs G C D kept rules located same = looked_none φs reached (λ n e mark δ φ. plainly_wrong φs G C D n e δ φ)

  module _ (t : ℕ) (w : MaybeWrong) (L : Looked t w) where
    pub looked_by : member reached t ≡ false → Looked (t + 1) w
    looked_by absent φs G C D kept rules located same =
        looked_past φs reached (λ n e mark δ φ. plainly_wrong φs G C D n e δ φ) t absent w (L φs G C D kept rules located same)

    pub looked_next : 1 ≤ t → t < 32 → t ≤ count → member reached t ≡ true → (own : MaybeWrong) → TellsWrongIn s rules_in (get_or starts t 0) graph t within own
        → (lowest : MaybeWrong) → lowest ≡ lower_wrong w own → Looked (t + 1) lowest
    looked_next positive low there held own T lowest is φs G C D kept rules located same =
        let at = get_or starts t 0 in
        let fuel = (length s - at) + (length s - at) + 2 in
        let q = located.counted in
        let (end, reads) = located.located t positive (omega arith) fuel (omega arith) in
        rw is (looked_more φs reached (λ n e mark δ φ. plainly_wrong φs G C D n e δ φ) t held (omega arith) w own
        (T φs G C D count kept rules same fuel end (template_at φs t) (reads ∙ ap (λ (φ : Items). whole φ end) (sym (template_listed φs t positive))))
        (L φs G C D kept rules located same))

    pub looked_end : (count < t) ⊎ (32 ≤ t) → TellsPlainlyWrong s rules_in starts count graph within reached w
    looked_end end φs G C D kept rules located same =
        looked_all φs reached (λ n e mark δ φ. plainly_wrong φs G C D n e δ φ) t w (past end) (L φs G C D kept rules located same)
      where
        past : (count < t) ⊎ (32 ≤ t) → length φs < t
        past e = let q = kept.counts in let few = kept.few in ⊎_elim (λ e. omega arith) (λ e. omega arith) e
