-- Entries that grow by the steps of points where variables wait become the least ones.
use Prim.Native.Nat.{ℕ, ◌+◌, ◌≤◌, ◌<◌}
use native.Mathlib.Omega.{arith}
use native.Mathlib.Decide.{dec_le}
use mathlib.Core.Path.{◌≡◌, refl, sym, ◌∙◌}
use mathlib.Core.Logic.{◌⊎◌, inl, inr}
use mathlib.Core.Bool.{Bool, true, false, cond, false≢true}
use Rattle.sets.proofs.Booleans.{or_neither}
use Rattle.programs.specs.Program.{Act, Statement, step, stop, statement_at, Variable, template_variable, string_variable, named}
use Rattle.summaries.specs.ProposalReading.{variable_of}
use Rattle.summaries.specs.Summaries.{Environment, transfer}
use Rattle.summaries.specs.Covering.{WithinAt, start_environment}
use Rattle.jobs.specs.Job.{Script}
use Rattle.jobs.specs.JobVerdict.{AllCovered, StartHolds, StatementHolds}
use Rattle.jobs.specs.LeastEntries.{Least}
use Rattle.least_entries.specs.Inner.Order.{Below}
use Rattle.least_entries.proofs.Monotone.{transfer_grows, below_refl, below_trans}
use Rattle.transfers.specs.Inner.Ways.{act_sources, meets}
use Rattle.solver.specs.Inner.Flows.{BelowAll, Leads, Joins, Starts, Passed, Flows, made_from, Takes, Settling}
use Rattle.solver.proofs.Sources.{transfer_from}

-- At one variable.
pub within_trans : (v : Variable) (E F G : Environment) → WithinAt v E F → WithinAt v F G → WithinAt v E G
within_trans (template_variable x) E F G f g = λ c e. g c (f c e)
within_trans (string_variable y) E F G f g = λ s e. g s (f s e)

pub same_or_not : (m n : ℕ) → Dec (m ≡ n)
same_or_not m n = go (dec_le m n) (dec_le n m)
  where
    go : Dec (m ≤ n) → Dec (n ≤ m) → Dec (m ≡ n)
    go (yes h) (yes k) = yes (omega arith)
    go (yes h) (no k) = no (λ e. k (omega arith))
    go (no h) d = no (λ e. h (omega arith))

pub lower : (w v : ℕ) → w < v + 1 → (w ≡ v → ⊥) → w < v
lower w v l d = go (dec_le v w)
  where
    go : Dec (v ≤ w) → w < v
    go (yes h) = absurd (d (omega arith))
    go (no h) = omega arith

module _ (π : Script) (p : ℕ) (a : Act) (next : ℕ) where
  abbrev Made : (ℕ → Environment) → Environment
  Made E = transfer π.templates a (E p)

  -- A step that F covers.
  pub covered_by : Leads π p a next → (F : ℕ → Environment) → AllCovered π F → (v : ℕ) → v < 8 → Passed π (F p) a (F next) v
  covered_by l F c v low n = go l.either
    where
      go : (next ≡ l.first) ⊎ (next ≡ l.second) → WithinAt (variable_of v) (Made F) (F next)
      go (inl e) = rw e (rw l.is at (c.steps p false v low) n)
      go (inr e) = rw e (rw l.is at (c.steps p true v low) n)

  pub flows_from : (E : ℕ → Environment) (fresh changed : Variable → Bool) → Flows π 0 E E p a next fresh changed
  flows_from E fresh changed = record {
    grows = λ q. below_refl (E q);
    others = λ q w d. below_refl (E q) w;
    below = λ l b. b;
    passes = λ w l. absurd (omega arith);
  }

  module _ (E₀ E : ℕ → Environment) (fresh changed changed' : Variable → Bool) (v : ℕ) (f : Flows π v E₀ E p a next fresh changed)
      (more : (w : Variable) → changed w ≡ true → changed' w ≡ true) where
    so_far : (q : ℕ) (w : Variable) → ((q ≡ next) × (changed' w ≡ true) → ⊥) → WithinAt w (E q) (E₀ q)
    so_far q w d = f.others q w (λ b. d (b.0, more w b.1))

    -- A variable that no statement names, or that the act makes from no fresh one, is not looked at.
    pub flows_past : (named π.program (variable_of v) ≡ true → meets fresh (act_sources a (variable_of v)) ≡ true → ⊥) → Flows π (v + 1) E₀ E p a next fresh changed'
    flows_past n = record { grows = f.grows; others = so_far; below = f.below; passes = λ w l. go w l (same_or_not w v) }
      where
        go : (w : ℕ) → w < v + 1 → Dec (w ≡ v) → meets fresh (act_sources a (variable_of w)) ≡ true → Passed π (E₀ p) a (E next) w
        go w l (yes e) = rw e (λ m k. absurd (n k m))
        go w l (no d) = f.passes w (lower w v l d)

    module _ (E' : ℕ → Environment) (n : named π.program (variable_of v) ≡ true) (low : v < 8) (j : Joins E E' next (variable_of v) (Made E))
        (kept : changed' (variable_of v) ≡ false → (q : ℕ) → Below (E' q) (E q)) where
      joined : (q : ℕ) (w : Variable) → ((q ≡ next) × (changed' w ≡ true) → ⊥) → (t : Bool) → changed' (variable_of v) ≡ t → WithinAt w (E' q) (E q)
      joined q w d true e = j.others q w (λ b. d (b.0, rw b.1 e))
      joined q w d false e = kept e q w

      passed : (w : ℕ) → w < v + 1 → Dec (w ≡ v) → meets fresh (act_sources a (variable_of w)) ≡ true → Passed π (E₀ p) a (E' next) w
      passed w l (yes e) m = rw e (λ k. within_trans (variable_of v) (Made E₀) (Made E) (E' next)
          (transfer_grows π.templates (E₀ p) (E p) (f.grows p) a (variable_of v)) j.made)
      passed w l (no d) m = λ k. within_trans (variable_of w) (Made E₀) (E next) (E' next) (f.passes w (lower w v l d) m k) (j.grows next (variable_of w))

      -- One that is named gets what the act makes of it.
      pub flows_on : Flows π (v + 1) E₀ E' p a next fresh changed'
      flows_on = record {
        grows = λ q. below_trans (E₀ q) (E q) (E' q) (f.grows q) (j.grows q);
        others = λ q w d. within_trans w (E' q) (E q) (E₀ q) (joined q w d (changed' (variable_of v)) refl) (so_far q w d);
        below = λ l b F c. j.least F (f.below l b F c)
            (within_trans (variable_of v) (Made E) (Made F) (F next)
            (transfer_grows π.templates (E p) (F p) (f.below l b F c p) a (variable_of v)) (covered_by l F c v low n));
        passes = λ w l. passed w l (same_or_not w v);
      }

module _ (π : Script) where
  -- Where nothing is held, whatever covers holds all of it.
  pub starts_from : (E : ℕ → Environment) → ((p : ℕ) (F : Environment) → Below (E p) F) → Starts π 0 E
  starts_from E none = record { holds = λ w l. absurd (omega arith); below = λ F c p. none p (F p) }

  module _ (E : ℕ → Environment) (v : ℕ) (s : Starts π v E) where
    pub starts_past : named π.program (variable_of v) ≡ false → Starts π (v + 1) E
    starts_past n = record { holds = λ w l. go w l (same_or_not w v); below = s.below }
      where
        go : (w : ℕ) → w < v + 1 → Dec (w ≡ v) → StartHolds π E w
        go w l (yes e) = λ m. absurd (false≢true (sym n ∙ (rw e at m)))
        go w l (no d) = s.holds w (lower w v l d)

    pub starts_on : (E' : ℕ → Environment) → named π.program (variable_of v) ≡ true → v < 8 → Joins E E' 0 (variable_of v) start_environment → Starts π (v + 1) E'
    starts_on E' n low j = record {
      holds = λ w l. go w l (same_or_not w v);
      below = λ F c. j.least F (s.below F c) (c.start v low n);
    }
      where
        go : (w : ℕ) → w < v + 1 → Dec (w ≡ v) → StartHolds π E' w
        go w l (yes e) = rw e (λ m. j.made)
        go w l (no d) = λ m. within_trans (variable_of w) start_environment (E 0) (E' 0) (s.holds w (lower w v l d) m) (j.grows 0 (variable_of w))

  -- Where a statement makes each variable from one that waits, there is no step to cover.
  pub settling_starts : (E : ℕ → Environment) → Starts π 8 E → (waits : ℕ → Variable → Bool)
      → ((p v : ℕ) → v < 8 → made_from (waits p) (statement_at π.program p) (variable_of v) ≡ false → statement_at π.program p ≡ stop) → Settling π E waits
  settling_starts E s waits rest = record {
    start = s.holds;
    steps = λ p b v l n. rw (rest p v l n) tt;
    below = s.below;
  }

  -- What the statement of a point makes of a variable of one point's entries lies within the next point's.
  abbrev Stepped : Environment → (ℕ → Environment) → Statement → Bool → ℕ → Type 0
  Stepped D E (step a q q') b v = Passed π D a (E (cond b q' q)) v
  Stepped D E stop b v = Unit {0}

  holds_stepped : (E E' : ℕ → Environment) (p : ℕ) → ((q : ℕ) → Below (E q) (E' q)) → (t : Statement) (b : Bool) (v : ℕ) → StatementHolds π E p t b v → Stepped (E p) E' t b v
  holds_stepped E E' p grown (step a q q') b v h = λ n.
      within_trans (variable_of v) (transfer π.templates a (E p)) (E (cond b q' q)) (E' (cond b q' q)) (h n) (grown (cond b q' q) (variable_of v))
  holds_stepped E E' p grown stop b v h = tt

  -- It is covered where none of the variables that it is made from has changed.
  stepped_holds : (D : Environment) (E : ℕ → Environment) (p : ℕ) (waits : Variable → Bool) → ((w : Variable) → waits w ≡ false → WithinAt w (E p) D) → (t : Statement) (b : Bool) (v : ℕ)
      → made_from waits t (variable_of v) ≡ false → Stepped D E t b v → StatementHolds π E p t b v
  stepped_holds D E p waits same (step a q q') b v m h = λ n.
      within_trans (variable_of v) (transfer π.templates a (E p)) (transfer π.templates a D) (E (cond b q' q)) (transfer_from π.templates D (E p) waits same a (variable_of v) m) (h n)
  stepped_holds D E p waits same stop b v m h = tt

  fewer_from : (waits waits' : Variable → Bool) → ((w : Variable) → waits' w ≡ false → waits w ≡ false) → (t : Statement) (v : Variable) → made_from waits' t v ≡ false → made_from waits t v ≡ false
  fewer_from waits waits' fewer (step a q q') v m =
      let n = or_neither (waits' (act_sources a v).0) (waits' (act_sources a v).1) m in
      rw (fewer _ n.0, fewer _ n.1)
  fewer_from waits waits' fewer stop v m = refl

  -- The steps of a point are taken.
  module _ (E E' : ℕ → Environment) (waits waits' : ℕ → Variable → Bool) (p : ℕ) (s : Settling π E waits) (grown : (q : ℕ) → Below (E q) (E' q))
      (fewer : (q : ℕ) (w : Variable) → (q ≡ p → ⊥) → waits' q w ≡ false → waits q w ≡ false) (same : (q : ℕ) (w : Variable) → waits' q w ≡ false → WithinAt w (E' q) (E q))
      (below : BelowAll π E')
      (taken : (b : Bool) (v : ℕ) → v < 8 → made_from (waits p) (statement_at π.program p) (variable_of v) ≡ true → Stepped (E p) E' (statement_at π.program p) b v) where
    still : (q : ℕ) (b : Bool) (v : ℕ) → v < 8 → made_from (waits q) (statement_at π.program q) (variable_of v) ≡ false → Stepped (E q) E' (statement_at π.program q) b v
    still q b v l m = holds_stepped E E' q grown (statement_at π.program q) b v (s.steps q b v l m)

    stepped : (q : ℕ) → Dec (q ≡ p) → (b : Bool) (v : ℕ) → v < 8 → made_from (waits' q) (statement_at π.program q) (variable_of v) ≡ false → Stepped (E q) E' (statement_at π.program q) b v
    stepped q (yes e) b v l m = rw e (go (made_from (waits p) (statement_at π.program p) (variable_of v)) refl)
      where
        go : (t : Bool) → made_from (waits p) (statement_at π.program p) (variable_of v) ≡ t → Stepped (E p) E' (statement_at π.program p) b v
        go true h = taken b v l h
        go false h = still p b v l h
    stepped q (no d) b v l m = still q b v l (fewer_from (waits q) (waits' q) (λ w. fewer q w d) (statement_at π.program q) (variable_of v) m)

    settles : Settling π E' waits'
    settles = record {
      start = λ v l m. within_trans (variable_of v) start_environment (E 0) (E' 0) (s.start v l m) (grown 0 (variable_of v));
      steps = λ q b v l m. stepped_holds (E q) E' q (waits' q) (same q) (statement_at π.program q) b v m (stepped q (same_or_not q p) b v l m);
      below = below;
    }

  module _ (E : ℕ → Environment) (waits cleared : ℕ → Variable → Bool) (p : ℕ) (s : Settling π E waits)
      (clears : (q : ℕ) (w : Variable) → (q ≡ p → ⊥) → cleared q w ≡ false → waits q w ≡ false) where
    pub settles_stop : statement_at π.program p ≡ stop → Settling π E cleared
    settles_stop is = settles E E waits cleared p s (λ q. below_refl (E q)) clears (λ q w n. below_refl (E q) w) s.below (λ b v l m. rw is tt)

    pub settles_step : (E' : ℕ → Environment) (waits' : ℕ → Variable → Bool) (a : Act) (first second : ℕ) → statement_at π.program p ≡ step a first second
        → ((b : Bool) → Takes π E E' cleared waits' p a (cond b second first) (waits p)) → Settling π E' waits'
    settles_step E' waits' a first second is T =
        settles E E' waits waits' p s (T false).grows (λ q w d n. clears q w d ((T false).fewer q w n)) (T false).same ((T false).below s.below)
        (λ b v l m. rw is ((T b).passes v l (rw is at m)))

  -- A step stays taken when another is taken after it, and that one is taken from before it on.
  module _ (E E₁ E₂ : ℕ → Environment) (waits waits₁ waits₂ : ℕ → Variable → Bool) (p : ℕ) (a : Act) (k k' : ℕ) (fresh : Variable → Bool)
      (T₁ : Takes π E E₁ waits waits₁ p a k fresh) (T₂ : Takes π E₁ E₂ waits₁ waits₂ p a k' fresh) where
    pub takes_both : (b : Bool) → Takes π E E₂ waits waits₂ p a (cond b k' k) fresh
    takes_both b = record {
      grows = λ q. below_trans (E q) (E₁ q) (E₂ q) (T₁.grows q) (T₂.grows q);
      fewer = λ q w n. T₁.fewer q w (T₂.fewer q w n);
      same = λ q w n. within_trans w (E₂ q) (E₁ q) (E q) (T₂.same q w n) (T₁.same q w (T₂.fewer q w n));
      below = λ h. T₂.below (T₁.below h);
      passes = go b;
    }
      where
        go : (b : Bool) (v : ℕ) → v < 8 → meets fresh (act_sources a (variable_of v)) ≡ true → Passed π (E p) a (E₂ (cond b k' k)) v
        go true v l m n = within_trans (variable_of v) (transfer π.templates a (E p)) (transfer π.templates a (E₁ p)) (E₂ k')
            (transfer_grows π.templates (E p) (E₁ p) (T₁.grows p) a (variable_of v)) (T₂.passes v l m n)
        go false v l m n = within_trans (variable_of v) (transfer π.templates a (E p)) (E₁ k) (E₂ k) (T₁.passes v l m n) (T₂.grows k (variable_of v))

  -- When nothing waits, the entries are the least ones.
  pub settled : (E : ℕ → Environment) (waits : ℕ → Variable → Bool) → Settling π E waits → ((p : ℕ) (w : Variable) → waits p w ≡ false) → Least π E
  settled E waits s none = record {
    covers = record { start = s.start; steps = λ p b v l. s.steps p b v l (nowhere p (statement_at π.program p) (variable_of v)) };
    within = λ F c p. s.below F c p;
  }
    where
      nowhere : (p : ℕ) (t : Statement) (v : Variable) → made_from (waits p) t v ≡ false
      nowhere p (step a q q') v = rw (none p (act_sources a v).0, none p (act_sources a v).1)
      nowhere p stop v = refl
