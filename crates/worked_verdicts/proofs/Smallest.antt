-- J1's proposal is the smallest one (document 02, F-1): it covers, by computation, and whatever covers holds each of its items.
use Prim.Native.Nat.{ℕ}
use native.Mathlib.Omega.{arith}
use mathlib.Core.Path.{◌≡◌, refl, ap, subst}
use mathlib.Core.List.{List, [], ◌∷◌, map}
use mathlib.Core.Bool.{Bool, true, false, cond, ◌&&◌, ◌||◌, false≢true}
use mathlib.Core.Logic.{inl, inr}
use lib.Dec.{eqb}
use borrow.Author.Tests.{eqb-true}
use Rattle.std.specs.Prelude.{Ok}
use Rattle.pages.specs.Items.{gap_in}
use Rattle.programs.specs.Program.{Variable, template_variable, string_variable, statement_at, template_at, named}
use Rattle.summaries.specs.Proposal.{Claim, root, edge, gap_from, Holding, claim, Head}
use Rattle.summaries.specs.Summaries.{Summary, Environment, Within, same_code, says_claim, says_string, held, same_variable, under, entries}
use Rattle.summaries.specs.Covering.{WithinAt}
use Rattle.jobs.specs.JobVerdict.{AllCovered}
use Rattle.jobs.specs.LeastEntries.{Least}
use Rattle.covering.specs.Inner.Promises.{Covers}
use Rattle.sets.proofs.Booleans.{or_right, or_cases, and_both, and_left, and_right}
use Rattle.entries.proofs.Claims.{says_alone}
use Rattle.worked_examples.proofs.ReadingJ1.{j1_job}
use Rattle.worked_verdicts.proofs.Covering.{cover_by, cover_by_lem}

-- What some claims say lies within a summary that holds each of them.
abbrev AllHeld : Summary → List Claim → Type 0
AllHeld S [] = Unit {0}
AllHeld S (c ∷ cs) = (S c ≡ true) × AllHeld S cs

claims_within : (S : Summary) (cs : List Claim) → AllHeld S cs → Within (held says_claim (map claim cs)) S
unfolding held
claims_within S [] e c h = absurd (false≢true h)
claims_within S (d ∷ cs) e c h = elim (or_cases (says_claim (claim d) c) (held says_claim (map claim cs) c) h) [
  | inl k ↦ subst (λ (x : Claim). S x ≡ true) (says_alone d c k) e.0
  | inr k ↦ claims_within S cs e.1 c k
]

-- What items say of a variable lies within an environment.
abbrev ItemsWithin : Variable → List Holding → Environment → Type 0
ItemsWithin v xs E = WithinAt v (record { template = λ x. held says_claim xs; string = λ y. held says_string xs }) E

-- What each head says lies within the environment of its point.
infixr 5 ◌&◌
data HeadsWithin (F : ℕ → Environment) : List Head → Type 0 where
  end : HeadsWithin F []
  ◌&◌ : {h : Head} {hs : List Head} → ItemsWithin h.variable h.holdings (F h.point) → HeadsWithin F hs → HeadsWithin F (h ∷ hs)

same_variable_lem : (v w : Variable) → same_variable v w ≡ true → v ≡ w
same_variable_lem (template_variable x) (template_variable y) e = ap template_variable (eqb-true x y e)
same_variable_lem (template_variable x) (string_variable y) e = absurd (false≢true e)
same_variable_lem (string_variable x) (template_variable y) e = absurd (false≢true e)
same_variable_lem (string_variable x) (string_variable y) e = ap string_variable (eqb-true x y e)

nothing_within : (v : Variable) (E : Environment) → ItemsWithin v [] E
unfolding held
nothing_within (template_variable x) E = λ c e. absurd (false≢true e)
nothing_within (string_variable y) E = λ s e. absurd (false≢true e)

under_within : (F : ℕ → Environment) (hs : List Head) → HeadsWithin F hs → (p : ℕ) (v : Variable) → ItemsWithin v (under hs p v) (F p)
unfolding under
under_within F [] end p v = nothing_within v (F p)
under_within F (h ∷ hs) (w & ws) p v = go (eqb h.point p && same_variable h.variable v) refl (under_within F hs ws p v)
  where
    go : (b : Bool) → (eqb h.point p && same_variable h.variable v) ≡ b → ItemsWithin v (under hs p v) (F p) → ItemsWithin v (cond b h.holdings (under hs p v)) (F p)
    go true e rest =
        let here : h.point ≡ p = eqb-true h.point p (and_left _ _ e) in
        let its : h.variable ≡ v = same_variable_lem h.variable v (and_right (eqb h.point p) _ e) in
        rw (← here, ← its) w
    go false e rest = rest

-- So does all that the proposal says.
proposal_within : (F : ℕ → Environment) (hs : List Head) → HeadsWithin F hs → (p : ℕ) (v : Variable) → WithinAt v (entries hs p) (F p)
unfolding entries
proposal_within F hs w p (template_variable x) = under_within F hs w p (template_variable x)
proposal_within F hs w p (string_variable y) = under_within F hs w p (string_variable y)

covers : cover_by j1_job ≡ Ok tt
unfolding cover_by held same_code template_at gap_in
covers = refl

-- Whatever covers holds the start, and from there on what each statement makes of it.
module _ (F : ℕ → Environment) (c : AllCovered j1_job.script F) where
  all_within : HeadsWithin F j1_job.proposal
  unfolding statement_at named template_at gap_in
  all_within =
      let x0_0 : (F 0).template 0 (root 0) ≡ true = c.start 0 (omega arith) refl (root 0) refl in
      let x1_0 : (F 0).template 1 (root 0) ≡ true = c.start 1 (omega arith) refl (root 0) refl in
      -- x0 becomes template 1, with its gap.
      let x0_1 : (F 1).template 0 (root 1) ≡ true = c.steps 0 false 0 (omega arith) refl (root 1) refl in
      let gap_1 : (F 1).template 0 (gap_from 0 1) ≡ true = c.steps 0 false 0 (omega arith) refl (gap_from 0 1) refl in
      let x1_1 : (F 1).template 1 (root 0) ≡ true = c.steps 0 false 1 (omega arith) refl (root 0) x1_0 in
      -- x1 becomes template 2.
      let x0_2 : (F 2).template 0 (root 1) ≡ true = c.steps 1 false 0 (omega arith) refl (root 1) x0_1 in
      let gap_2 : (F 2).template 0 (gap_from 0 1) ≡ true = c.steps 1 false 0 (omega arith) refl (gap_from 0 1) gap_1 in
      let x1_2 : (F 2).template 1 (root 2) ≡ true = c.steps 1 false 1 (omega arith) refl (root 2) refl in
      -- x1 is plugged into the gap of x0.
      let x0_3 : (F 3).template 0 (root 1) ≡ true = c.steps 2 false 0 (omega arith) refl (root 1) x0_2 in
      let edge_3 : (F 3).template 0 (edge 1 0 2) ≡ true = c.steps 2 false 0 (omega arith) refl (edge 1 0 2) (or_right ((F 2).template 0 (edge 1 0 2) || (F 2).template 1 (edge 1 0 2)) _ (and_both _ _ gap_2 x1_2)) in
      let x1_3 : (F 3).template 1 (root 2) ≡ true = c.steps 2 false 1 (omega arith) refl (root 2) x1_2 in
      -- A show changes nothing.
      let x0_4 : (F 4).template 0 (root 1) ≡ true = c.steps 3 false 0 (omega arith) refl (root 1) x0_3 in
      let edge_4 : (F 4).template 0 (edge 1 0 2) ≡ true = c.steps 3 false 0 (omega arith) refl (edge 1 0 2) edge_3 in
      let x1_4 : (F 4).template 1 (root 2) ≡ true = c.steps 3 false 1 (omega arith) refl (root 2) x1_3 in
      claims_within _ (root 0 ∷ []) (x0_0, tt)
      & claims_within _ (root 0 ∷ []) (x1_0, tt)
      & claims_within _ (root 1 ∷ gap_from 0 1 ∷ []) (x0_1, (gap_1, tt))
      & claims_within _ (root 0 ∷ []) (x1_1, tt)
      & claims_within _ (root 1 ∷ gap_from 0 1 ∷ []) (x0_2, (gap_2, tt))
      & claims_within _ (root 2 ∷ []) (x1_2, tt)
      & claims_within _ (root 1 ∷ edge 1 0 2 ∷ []) (x0_3, (edge_3, tt))
      & claims_within _ (root 2 ∷ []) (x1_3, tt)
      & claims_within _ (root 1 ∷ edge 1 0 2 ∷ []) (x0_4, (edge_4, tt))
      & claims_within _ (root 2 ∷ []) (x1_4, tt)
      & end

pub j1_least : Least j1_job.script (entries j1_job.proposal)
j1_least = record {
  covers = subst (Covers j1_job.script (entries j1_job.proposal)) covers (cover_by_lem j1_job);
  within = λ F c. proposal_within F j1_job.proposal (all_within F c);
}
