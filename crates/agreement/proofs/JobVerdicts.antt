-- A job has at most one verdict. Its verdict is that of the first place, in document 01's order, at which something fails, and there is
-- one first place. The cases are laid out in that order: reading, the start, the steps, the shows, and 11 before a wrong element at a show.
use Prim.Native.Nat.{ℕ, ◌≤◌, ◌<◌}
use native.Mathlib.Omega.{arith}
use native.Mathlib.Decide.{dec_le}
use mathlib.Core.Path.{◌≡◌, refl}
use mathlib.Core.List.{List}
use mathlib.Core.Bool.{Bool, true, false}
use lib.ListN.{length}
use Rattle.verdicts.specs.declared.Numbers.{Numbers}
use Rattle.verdicts.specs.declared.Breach.{Breach}
use Rattle.verdicts.specs.declared.Fault.TheVariants.{NotRoot}
use Rattle.verdicts.specs.Printed.{prints, fault_numbers, element_fault}
use Rattle.commands.specs.Reading.{enough}
use Rattle.vocabularies.specs.Vocabulary.{declared}
use Rattle.vocabularies.specs.VocabularyReading.{vocabulary}
use Rattle.pages.specs.RightPages.{FirstBreach}
use Rattle.programs.specs.Program.{statement_at, template_at}
use Rattle.programs.specs.ProgramReading.{program}
use Rattle.summaries.specs.ProposalReading.{proposal}
use Rattle.summaries.specs.Summaries.{Environment}
use Rattle.jobs.specs.Job.{Script, script, job}
use Rattle.jobs.specs.JobVerdict.{StartHolds, StepHolds, StepsBefore, ShowHolds, NotRootAt, WrongIn, next_of, ScriptVerdict, start_uncovered, step_uncovered, not_root, wrong_element, accepted, JobVerdict, unreadable, readable}
use Rattle.agreement.proofs.Readings.{Gives, gives, given, gives_any, gives_then, gives_alone}
use Rattle.agreement.proofs.Marks.{AllRise, Stands, templates_rise, one_template}
use Rattle.agreement.proofs.Breaches.{first_told}
use Rattle.agreement.proofs.Breaches as Breaches
use Rattle.agreement.proofs.Pages.{accepts_right}

-- Two first places at which P fails are one.
first_unique : (P : ℕ → Type 0) (m n : ℕ) → (P m → ⊥) → ((k : ℕ) → k < m → P k) → (P n → ⊥) → ((k : ℕ) → k < n → P k) → m ≡ n
first_unique P m n fm hm fn hn = go (dec_le m n) (dec_le n m)
  where
    go : Dec (m ≤ n) → Dec (n ≤ m) → m ≡ n
    go (yes h) (yes k) = omega arith
    go (yes h) (no k) = absurd (fm (hn m (omega arith)))
    go (no h) d = absurd (fn (hm n (omega arith)))

module _ (π : Script) (E : ℕ → Environment) where
  abbrev StartsHold : Type 0
  StartsHold = (v : ℕ) → v < 8 → StartHolds π E v

  abbrev StepsHold : Type 0
  StepsHold = (p : ℕ) (b : Bool) (v : ℕ) → v < 8 → StepHolds π E p b v

  -- What is wrong at a show.
  data ShowFails (p : ℕ) : Numbers → Type 0 where
    no_root : {t : ℕ} → NotRootAt π E p t → ((t' : ℕ) → NotRootAt π E p t' → t ≤ t') → ShowFails p (fault_numbers (NotRoot p t))
    wrong : {t at : ℕ} {b : Breach} → ((t' : ℕ) → NotRootAt π E p t' → ⊥) → FirstBreach (WrongIn π E p t at) b
        → ((t' at' : ℕ) (b' : Breach) → WrongIn π E p t' at' b' → at ≤ at') → ShowFails p (fault_numbers (element_fault p t at b))

  data OfShows : Numbers → Type 0 where
    show : {p : ℕ} {a : Numbers} → ((p' : ℕ) → p' < p → ShowHolds π E p') → ShowFails p a → OfShows a
    all_shows : ((p : ℕ) → ShowHolds π E p) → OfShows (prints 0 0 0 0)

  record StepFails (p : ℕ) (second : Bool) (v : ℕ) : Type 0 where
    small : v < 8
    uncovered : StepHolds π E p second v → ⊥
    before : StepsBefore π E p second v

  data OfSteps : Numbers → Type 0 where
    step : (p : ℕ) (second : Bool) (v : ℕ) → StepFails p second v
        → OfSteps (prints 10 p (next_of (statement_at π.program p) second) v)
    all_steps : {a : Numbers} → StepsHold → OfShows a → OfSteps a

  data OfStart : Numbers → Type 0 where
    start : (v : ℕ) → v < 8 → (StartHolds π E v → ⊥) → ((v' : ℕ) → v' < v → StartHolds π E v') → OfStart (prints 9 0 0 v)
    all_starts : {a : Numbers} → StartsHold → OfSteps a → OfStart a

in_order : {π : Script} {E : ℕ → Environment} {a : Numbers} → ScriptVerdict π E a → OfStart π E a
in_order (start_uncovered {v = v} h n b) = start v h n b
in_order (step_uncovered {p = p} {v = v} second starts h n b) = all_starts starts (step p second v (record { small = h; uncovered = n; before = b }))
in_order (not_root c shows n l) = all_starts c.start (all_steps c.steps (show shows (no_root n l)))
in_order (wrong_element c shows n f l) = all_starts c.start (all_steps c.steps (show shows (wrong n f l)))
in_order (accepted c shows) = all_starts c.start (all_steps c.steps (all_shows shows))

-- A mark stands in one template only,
abbrev pub Apart : Script → Type 0
Apart π = (mark t t' : ℕ) → Stands mark (template_at π.templates t) → Stands mark (template_at π.templates t') → t ≡ t'

-- as where the marks of a script's templates rise.
abbrev pub Marked : Script → Type 0
Marked π = (low : ℕ) × (high : ℕ) × AllRise low π.templates high

pub marked_apart : (π : Script) → Marked π → Apart π
marked_apart π m mark t t' = one_template π.templates m.0 m.1 mark t t' m.2

module _ {π : Script} {E : ℕ → Environment} where
  show_fails : {p : ℕ} {a : Numbers} → ShowFails π E p a → ShowHolds π E p → ⊥
  show_fails (no_root {t = t} n l) h = n.other (h n.graph n.shows n.page (t, n.derived)).alone
  show_fails (wrong {at = at} {b = b} k f l) h =
      let w = first_told f in
      accepts_right π.vocabulary w.page at b (h w.graph w.shows w.page w.derived).accepted w.wrong

  at_show : {p : ℕ} {a b : Numbers} → Apart π → ShowFails π E p a → ShowFails π E p b → a ≡ b
  at_show m (no_root {t = t} n l) (no_root {t = t'} n' l') =
      let e : t ≡ t' = omega (arith, l t' n', l' t n) in rw e
  at_show m (no_root {t = t} n l) (wrong k f l') = absurd (k t n)
  at_show m (wrong k f l) (no_root {t = t} n l') = absurd (k t n)
  at_show {p} m (wrong {t = t} {at = at} {b = b} k f l) (wrong {t = t'} {at = at'} {b = b'} k' f' l') =
      let e : at ≡ at' = omega (arith, l t' at' b' (first_told f'), l' t at b (first_told f)) in
      let d : t ≡ t' = m at' t t' (rw e at (first_told f).stands) (first_told f').stands in
      let g : FirstBreach (WrongIn π E p t' at') b = rw (d, e) at f in
      let is : b ≡ b' = Breaches.first_unique g f' in rw (e, d, is)

  of_shows : {a b : Numbers} → Apart π → OfShows π E a → OfShows π E b → a ≡ b
  of_shows m (show {p = p} h f) (show {p = p'} h' f') =
      let e : p ≡ p' = first_unique (ShowHolds π E) p p' (show_fails f) h (show_fails f') h' in at_show m f (rw (← e) at f')
  of_shows m (show {p = p} h f) (all_shows k) = absurd (show_fails f (k p))
  of_shows m (all_shows k) (show {p = p} h f) = absurd (show_fails f (k p))
  of_shows m (all_shows h) (all_shows k) = refl

  same_point : {p p' : ℕ} {second second' : Bool} {v v' : ℕ} → StepFails π E p second v → StepFails π E p' second' v' → p ≡ p'
  same_point {p} {p'} {second} {second'} {v} {v'} F F' = go (dec_le p p') (dec_le p' p)
    where
      go : Dec (p ≤ p') → Dec (p' ≤ p) → p ≡ p'
      go (yes h) (yes k) = omega arith
      go (yes h) (no k) = absurd (F.uncovered (F'.before.points p (omega arith) second v F.small))
      go (no h) d = absurd (F'.uncovered (F.before.points p' (omega arith) second' v' F'.small))

  same_side : {p : ℕ} {v v' : ℕ} (second second' : Bool) → StepFails π E p second v → StepFails π E p second' v' → second ≡ second'
  same_side false false F F' = refl
  same_side {v} false true F F' = absurd (F.uncovered (F'.before.sides refl v F.small))
  same_side {v'} true false F F' = absurd (F'.uncovered (F.before.sides refl v' F'.small))
  same_side true true F F' = refl

  same_variable_lem : {p : ℕ} {second : Bool} {v v' : ℕ} → StepFails π E p second v → StepFails π E p second v' → v ≡ v'
  same_variable_lem {p} {second} {v} {v'} F F' =
      first_unique (StepHolds π E p second) v v' F.uncovered F.before.variables F'.uncovered F'.before.variables

  of_steps : {a b : Numbers} → Apart π → OfSteps π E a → OfSteps π E b → a ≡ b
  of_steps m (step p second v F) (step p' second' v' F') =
      let e : p ≡ p' = same_point F F' in
      let G : StepFails π E p second' v' = rw (← e) at F' in
      let d : second ≡ second' = same_side second second' F G in
      let H : StepFails π E p second v' = rw (← d) at G in
      let c : v ≡ v' = same_variable_lem F H in rw (e, d, c)
  of_steps m (step p second v F) (all_steps k o) = absurd (F.uncovered (k p second v F.small))
  of_steps m (all_steps k o) (step p second v F) = absurd (F.uncovered (k p second v F.small))
  of_steps m (all_steps k o) (all_steps k' o') = of_shows m o o'

  of_start : {a b : Numbers} → Apart π → OfStart π E a → OfStart π E b → a ≡ b
  of_start m (start v h n b) (start v' h' n' b') =
      let e : v ≡ v' = first_unique (StartHolds π E) v v' n b n' b' in rw e
  of_start m (start v h n b) (all_starts k o) = absurd (n (k v h))
  of_start m (all_starts k o) (start v h n b) = absurd (n (k v h))
  of_start m (all_starts k o) (all_starts k' o') = of_steps m o o'

-- A script has at most one verdict.
pub script_unique : {π : Script} {E : ℕ → Environment} {a b : Numbers} → Apart π → ScriptVerdict π E a → ScriptVerdict π E b → a ≡ b
script_unique m o o' = of_start m (in_order o) (in_order o')

-- The marks of a script that is read.
script_marked : (s : List ℕ) → Gives (Unit {0}) (λ π end. Marked π) (script s)
unfolding script
script_marked s =
    gives_then (gives_any (vocabulary s)) λ D next m.
    gives_then (templates_rise (declared D.rules) s (enough s) 0 next) λ φs next' r.
    gives_then (gives_any (program (enough s) (length φs) s next')) λ ts end m''. gives (next, next', r)

pub job_marked : (s : List ℕ) → Gives (Unit {0}) (λ j end. Marked j.script) (job s)
unfolding job
job_marked s = gives_alone s
    (gives_then (script_marked s) λ π next m.
    gives_then (gives_any (proposal (enough s) (length π.templates) (length π.program) s 0 next)) λ hs end n. gives m)

-- So has a job.
pub unique : {s : List ℕ} {a b : Numbers} → JobVerdict s a → JobVerdict s b → a ≡ b
unique (unreadable {f = f} {at = at} e) (unreadable {f = f'} {at = at'} e') =
    let F : f ≡ f' = cc in let A : at ≡ at' = cc in rw (F, A)
unique (unreadable e) (readable e' o) = let z : ◌≡◌ {A = ℕ} 0 1 = cc in absurd (omega arith)
unique (readable e o) (unreadable e') = let z : ◌≡◌ {A = ℕ} 0 1 = cc in absurd (omega arith)
unique {s} (readable {j = j} e o) (readable {j = j'} e' o') =
    let J : j ≡ j' = cc in script_unique (marked_apart j.script (given (job_marked s) e)) o (rw (← J) at o')
