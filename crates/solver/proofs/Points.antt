-- The steps of a point: none at `38`, else one to each of two next points, or one to both where they are the same.
use Prim.Native.Nat.{ℕ, ◌%◌, ◌^◌, ◌≤◌, ◌<◌}
use mathlib.Core.Path.{◌≡◌, refl, sym, ◌∙◌}
use mathlib.Core.List.{List}
use mathlib.Core.Logic.{◌⊎◌, inl, inr}
use mathlib.Core.Bool.{Bool, true, false, cond, ◌||◌, or-false, false≢true}
use native.Mathlib.Omega.{arith}
use lib.ListN.{length, get_or, set, length-set}
use lib.Seq.{get_or-set_same, get_or-set_other}
use lib.Dec.{lit<}
use Rattle.sets.specs.Sets.{member}
use Rattle.sets.proofs.Laws.{member_zero, same_members}
use Rattle.commands.specs.declared.Position.{Position}
use Rattle.pages.specs.Inner.Gaps.{GapsTable}
use Rattle.programs.specs.declared.Act as Acts
use Rattle.programs.specs.declared.Statement as Statements
use Rattle.programs.specs.declared.Statement.TheVariants.{Step, Stop}
use Rattle.programs.specs.Program.{Act, step, statement_at, Variable}
use Rattle.programs.specs.Inner.Promises.{as_act, as_statement, statement_here}
use Rattle.jobs.specs.Job.{Script}
use Rattle.jobs.specs.Inner.ScriptTables.{ScriptTables, StatementStands}
use Rattle.transfers.specs.Inner.Ways.{among}
use Rattle.sets.proofs.Booleans.{or_left, or_right, refuted}
use Rattle.states.specs.Inner.States.{entries_in}
use Rattle.solver.specs.Inner.Flows.{BelowAll, Takes, Settling}
use Rattle.solver.specs.Inner.Work.{StepStands, RisesOr, Flowed, waits_in, StepTaken, Settles}
use Rattle.solver.proofs.Variables.{among_more}
use Rattle.solver.proofs.Worklist.{same_or_not, settles_stop, settles_step, takes_both}
use Rattle.solver.proofs.Bounds.{act_fits, act_there, first_there, second_there, few_there, everything_covers}

-- ---- one step

module _ (before gaps : List ℕ) (names fresh : ℕ) (a : Act) (p next : ℕ) (waiting after : List ℕ) (changed : ℕ) (F : Flowed 8 before gaps names fresh a p next after changed) where
  module _ (waiting' : List ℕ) (adds : (k : ℕ) → member (get_or waiting' next 0) k ≡ (member (get_or waiting next 0) k || member changed k))
      (elsewhere : (q : ℕ) → (q ≡ next → ⊥) → get_or waiting' q 0 ≡ get_or waiting q 0) (same_length : length waiting' ≡ length waiting)
      (rises : RisesOr before after (waiting' ≡ waiting)) where
    -- What waited and what has changed waits.
    still_waits : (w : Variable) → waits_in waiting next w ≡ true → waits_in waiting' next w ≡ true
    still_waits = among_more (get_or waiting next 0) (get_or waiting' next 0) (λ k m. adds k ∙ or_left (member (get_or waiting next 0) k) _ m)

    changed_waits : (w : Variable) → among changed w ≡ true → waits_in waiting' next w ≡ true
    changed_waits = among_more changed (get_or waiting' next 0) (λ k m. adds k ∙ or_right (member (get_or waiting next 0) k) _ m)

    fewer_wait : (q : ℕ) (w : Variable) → waits_in waiting' q w ≡ false → waits_in waiting q w ≡ false
    fewer_wait q w n = go (same_or_not q next)
      where
        go : Dec (q ≡ next) → waits_in waiting q w ≡ false
        go (yes e) = rw e (refuted _ (λ m. false≢true (sym (rw e at n) ∙ still_waits w m)))
        go (no d) = rw (elsewhere q d) at n

    step_taken : StepTaken before gaps names fresh a p next waiting after waiting'
    step_taken = record {
      takes = λ π points S b.
          let f = F.flows π points S b in
          record {
            grows = f.grows;
            fewer = fewer_wait;
            same = λ q w n. f.others q w (λ h. false≢true (sym (rw h.0 at n) ∙ changed_waits w h.1));
            below = f.below S.leads;
            passes = f.passes;
          };
      elsewhere = elsewhere;
      same_length = same_length;
      rises = rises;
    }

  -- Nothing has changed.
  pub none_changed : changed ≡ 0 → StepTaken before gaps names fresh a p next waiting after waiting
  none_changed e = step_taken waiting (λ k. rw (e, member_zero k) (sym (or-false (member (get_or waiting next 0) k)))) (λ q d. refl) refl (still F.rises)
    where
      still : RisesOr before after ((k : ℕ) → member changed k ≡ false) → RisesOr before after (waiting ≡ waiting)
      still (inl l) = inl l
      still (inr h) = inr (h.0, refl)

  pub some_changed : (changed ≡ 0 → ⊥) → changed < 2 ^ 64 → next < length waiting → (more : ℕ) → ((k : ℕ) → member more k ≡ (member (get_or waiting next 0) k || member changed k))
      → StepTaken before gaps names fresh a p next waiting after (set waiting next more)
  some_changed n narrow low more is =
      step_taken (set waiting next more) (λ k. rw (get_or-set_same waiting next more 0 low) (is k)) (λ q d. get_or-set_other waiting next q more 0 d) (length-set waiting next more)
      (risen F.rises)
    where
      risen : RisesOr before after ((k : ℕ) → member changed k ≡ false) → RisesOr before after (set waiting next more ≡ waiting)
      risen (inl l) = inl l
      risen (inr h) = absurd (n (same_members 64 changed 0 narrow (lit< tt) (λ k l. h.1 k ∙ sym (member_zero k))))

-- ---- the steps to both next points

record BothTaken (before gaps : List ℕ) (names fresh : ℕ) (a : Act) (p near far : ℕ) (waiting after waiting' : List ℕ) : Type 0 where
  takes : (π : Script) (points : ℕ) → StepStands π gaps names points p near a → StepStands π gaps names points p far a → BelowAll π (entries_in points before)
      → (b : Bool) → Takes π (entries_in points before) (entries_in points after) (waits_in waiting) (waits_in waiting') p a (cond b far near) (among fresh)
  elsewhere : (q : ℕ) → (q ≡ near → ⊥) → (q ≡ far → ⊥) → get_or waiting' q 0 ≡ get_or waiting q 0
  same_length : length waiting' ≡ length waiting
  rises : RisesOr before after (waiting' ≡ waiting)

module _ (before gaps : List ℕ) (names fresh : ℕ) (a : Act) (p near far : ℕ) (waiting middle waiting₁ : List ℕ) (T₁ : StepTaken before gaps names fresh a p near waiting middle waiting₁) where
  -- They are the same.
  one_taken : far ≡ near → BothTaken before gaps names fresh a p near far waiting middle waiting₁
  one_taken e = rw e (record {
    takes = λ π points S S' b. go π points (T₁.takes π points S b);
    elsewhere = λ q d d'. T₁.elsewhere q d;
    same_length = T₁.same_length;
    rises = T₁.rises;
  })
    where
      go : (π : Script) (points : ℕ) → Takes π (entries_in points before) (entries_in points middle) (waits_in waiting) (waits_in waiting₁) p a near (among fresh)
          → (b : Bool) → Takes π (entries_in points before) (entries_in points middle) (waits_in waiting) (waits_in waiting₁) p a (cond b near near) (among fresh)
      go π points T true = T
      go π points T false = T

  two_taken : (after waiting₂ : List ℕ) → StepTaken middle gaps names fresh a p far waiting₁ after waiting₂ → BothTaken before gaps names fresh a p near far waiting after waiting₂
  two_taken after waiting₂ T₂ = record {
    takes = λ π points S S' b.
        let T = T₁.takes π points S b in
        takes_both π (entries_in points before) (entries_in points middle) (entries_in points after) (waits_in waiting) (waits_in waiting₁) (waits_in waiting₂) p a near far (among fresh) T
        (T₂.takes π points S' (T.below b));
    elsewhere = λ q d d'. T₂.elsewhere q d' ∙ T₁.elsewhere q d;
    same_length = T₂.same_length ∙ T₁.same_length;
    rises = risen T₁.rises T₂.rises;
  }
    where
      risen : RisesOr before middle (waiting₁ ≡ waiting) → RisesOr middle after (waiting₂ ≡ waiting₁) → RisesOr before after (waiting₂ ≡ waiting)
      risen (inl l) (inl l') = inl (omega arith)
      risen (inl l) (inr h') = inl (rw h'.0 l)
      risen (inr h) (inl l') = inl (rw (← h.0) l')
      risen (inr h) (inr h') = inr (h'.0 ∙ h.0, h'.1 ∙ h.1)

module _ (s gaps : List ℕ) (names place p : ℕ) (here : Position) (here_is : here ≡ record { at = place }) (t : Statements.Statement)
    (found : as_statement t ≡ statement_here s here.at) where
  t_is : as_statement t ≡ statement_here s place
  t_is = rw here_is at found

  -- The statement of the point.
  is_statement : (π : Script) (count : ℕ) (starts : List ℕ) (points : ℕ) (places : List ℕ) → ScriptTables π s count starts points places names → p < points → place ≡ get_or places p 0
      → statement_at π.program p ≡ as_statement t
  is_statement π count starts points places T low place_is =
      let stands : StatementStands s count place (statement_at π.program p) = rw place_is (T.statement p low) in
      sym stands.is ∙ sym t_is

  module _ (before waiting : List ℕ) where
    clears : (q : ℕ) (w : Variable) → (q ≡ p → ⊥) → waits_in (set waiting p 0) q w ≡ false → waits_in waiting q w ≡ false
    clears q w d n = rw (get_or-set_other waiting p q 0 0 d) at n

    pub settles_none : t ≡ Stop → Settles s before gaps names place p waiting before (set waiting p 0)
    settles_none e = record {
      settling = λ π count starts points places T G low place_is S.
          settles_stop π (entries_in points before) (waits_in waiting) (waits_in (set waiting p 0)) p S clears (is_statement π count starts points places T low place_is ∙ rw e);
      there = λ π count starts points places T G low place_is q far h. get_or-set_other waiting p q 0 0 (λ e. omega arith) ∙ h;
      same_length = length-set waiting p 0;
      progress = inr (refl, refl);
    }

    module _ (after waiting' : List ℕ) (a : Acts.Act) (k k' : ℕ) (e : t ≡ Step a k k')
        (B : BothTaken before gaps names (get_or waiting p 0) (as_act a) p (k % 32) (k' % 32) (set waiting p 0) after waiting') where
      module _ (π : Script) (count : ℕ) (starts : List ℕ) (points : ℕ) (places : List ℕ) (T : ScriptTables π s count starts points places names) (G : GapsTable gaps π.templates)
          (low : p < points) (place_is : place ≡ get_or places p 0) where
        is : statement_at π.program p ≡ step (as_act a) k k'
        is = is_statement π count starts points places T low place_is ∙ rw e

        step_stands : (next : ℕ) → next < points → (next ≡ k) ⊎ (next ≡ k') → StepStands π gaps names points p next (as_act a)
        step_stands next there either = record {
          act = record {
            fits = act_fits π s count starts points places names T gaps G p low (as_act a) k k' is;
            template_there = act_there π s count starts points places names T gaps G p low (as_act a) k k' is;
            few = few_there π s count starts points places names T gaps G;
            gaps_are = G;
            point_low = low;
            next_low = there;
          };
          names_are = T.names_are;
          leads = record { first = k; second = k'; is = is; either = either };
          bounded = everything_covers π s count starts points places names T gaps G;
        }

        first_low : k < points
        first_low = first_there π s count starts points places names T gaps G p low (as_act a) k k' is

        second_low : k' < points
        second_low = second_there π s count starts points places names T gaps G p low (as_act a) k k' is

        first_kept : k % 32 ≡ k
        first_kept = let l = first_low in let m = T.few_points in omega arith

        second_kept : k' % 32 ≡ k'
        second_kept = let l = second_low in let m = T.few_points in omega arith

        next_stands : (next : ℕ) → next < points → (next ≡ k) ⊎ (next ≡ k') → StepStands π gaps names points p (next % 32) (as_act a)
        next_stands next there either =
            let m = T.few_points in
            let kept : next % 32 ≡ next = omega arith in
            rw kept (step_stands next there either)

        settled_point : Settling π (entries_in points before) (waits_in waiting) → Settling π (entries_in points after) (waits_in waiting')
        settled_point S =
            settles_step π (entries_in points before) (waits_in waiting) (waits_in (set waiting p 0)) p S clears (entries_in points after) (waits_in waiting') (as_act a) (k % 32) (k' % 32)
            (is ∙ sym (rw (first_kept, second_kept)))
            (B.takes π points (next_stands k first_low (inl refl)) (next_stands k' second_low (inr refl)) S.below)

        waiting_there : (q : ℕ) → points ≤ q → get_or waiting q 0 ≡ 0 → get_or waiting' q 0 ≡ 0
        waiting_there q far h =
            let f = first_low in
            let f' = second_low in
            let g = first_kept in
            let g' = second_kept in
            B.elsewhere q (λ e. omega arith) (λ e. omega arith) ∙ get_or-set_other waiting p q 0 0 (λ e. omega arith) ∙ h

      settles_both : Settles s before gaps names place p waiting after waiting'
      settles_both = record { settling = settled_point; there = waiting_there; same_length = B.same_length ∙ length-set waiting p 0; progress = B.rises }

    module _ (middle waiting₁ : List ℕ) (a : Acts.Act) (k k' : ℕ) (e : t ≡ Step a k k')
        (T₁ : StepTaken before gaps names (get_or waiting p 0) (as_act a) p (k % 32) (set waiting p 0) middle waiting₁) where
      pub settles_once : k' % 32 ≡ k % 32 → Settles s before gaps names place p waiting middle waiting₁
      settles_once same = settles_both middle waiting₁ a k k' e (one_taken before gaps names (get_or waiting p 0) (as_act a) p (k % 32) (k' % 32) (set waiting p 0) middle waiting₁ T₁ same)

      pub settles_twice : (after waiting₂ : List ℕ) → StepTaken middle gaps names (get_or waiting p 0) (as_act a) p (k' % 32) waiting₁ after waiting₂ → Settles s before gaps names place p waiting after waiting₂
      settles_twice after waiting₂ T₂ =
          settles_both after waiting₂ a k k' e (two_taken before gaps names (get_or waiting p 0) (as_act a) p (k % 32) (k' % 32) (set waiting p 0) middle waiting₁ T₁ after waiting₂ T₂)
