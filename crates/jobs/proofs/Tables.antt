-- A script that was read: the readings of its parts, and the tables that are kept of it.
use Prim.Native.Nat.{ℕ, zero, suc, ◌+◌, ◌-◌, ◌≤◌, ◌<◌}
use mathlib.Core.Path.{◌≡◌, refl, sym, ap, ◌∙◌, subst}
use mathlib.Core.Logic.{inl, inr}
use mathlib.Core.List.{List, [], ◌∷◌}
use mathlib.Core.Bool.{Bool, true, false, cond}
use native.Mathlib.Omega.{arith}
use lib.ListN.{length, get_or}
use lib.Dec.{leb, ltb}
use borrow.Author.Tests.{ltb-true, ltb-false}
use Rattle.verdicts.specs.declared.Form.TheVariants.{TooLong, NotAllowed}
use Rattle.sets.specs.Sets.{member}
use Rattle.commands.specs.Reading.{Read, whole, refused, and_then, when, enough}
use Rattle.commands.proofs.Laws.{and_then_whole, when_whole}
use Rattle.vocabularies.specs.Vocabulary.{declared}
use Rattle.vocabularies.specs.VocabularyReading.{vocabulary, most_bytes, alone}
use Rattle.pages.specs.Items.{Items, none}
use Rattle.pages.specs.ItemReading.{most_templates, templates}
use Rattle.pages.specs.Inner.Gaps.{GapsAre, GapsTable, StartsAt}
use Rattle.pages.specs.Inner.Promises.{Located}
use Rattle.pages.proofs.Whole.{never_unfinished, templates_whole}
use Rattle.programs.specs.Program.{string_variable, template_at, named}
use Rattle.programs.specs.Program as Program
use Rattle.programs.specs.ProgramReading.{program}
use Rattle.programs.specs.Inner.Promises.{Names}
use Rattle.summaries.specs.ProposalReading.{proposal}
use Rattle.jobs.specs.declared.ScriptRead.{ScriptRead}
use Rattle.jobs.specs.Job.{Script, Job, script, job}
use Rattle.jobs.specs.Inner.Promises.{ScriptKept}
use Rattle.jobs.specs.Inner.ScriptTables.{NamesAre, ScriptTables}
use Rattle.jobs.proofs.Parts.{of_parts, after_templates, after_vocabulary, after_script, stops}

-- The parts of a script that is read whole.
pub record PartsRead (s : List ℕ) (π : Script) : Type 0 where
  pub first : ℕ
  pub vocabulary_reads : vocabulary s ≡ whole π.vocabulary first
  pub second : ℕ
  pub templates_read : templates (enough s) (declared π.vocabulary.rules) s 0 first ≡ whole π.templates second
  pub third : ℕ
  pub program_reads : program (enough s) (length π.templates) s second ≡ whole π.program third

module _ (s : List ℕ) where
  pub script_parts : (π : Script) (end : ℕ) → script s ≡ whole π end → PartsRead s π
  unfolding script
  script_parts π end e =
      let v = and_then_whole (vocabulary s) (after_vocabulary s) π end e in
      let t = and_then_whole (templates (enough s) (declared v.0.rules) s 0 v.1) (after_templates s v.0) π end v.3 in
      let p = and_then_whole (program (enough s) (length t.0) s t.1) (λ ts end. whole (of_parts s v.0 t.0 ts) end) π end t.3 in
      let q : of_parts s v.0 t.0 p.0 ≡ π = cc p.3 in
      subst (λ (k : Script). PartsRead s k) q (record {
        first = v.1;
        vocabulary_reads = v.2;
        second = t.1;
        templates_read = t.2;
        third = p.1;
        program_reads = p.2;
      })

  -- What is read alone is read.
  pub alone_whole : {A : Type 0} (r : Read A) {a : A} {end : ℕ} → alone s r ≡ whole a end → r ≡ whole a end
  alone_whole {A} r {a} {end} e =
      let short = when_whole (leb (length s) most_bytes) (λ _. and_then r (stops s)) TooLong 0 a end e in
      let b = and_then_whole r (stops s) a end short.1 in
      b.2 ∙ go (ltb b.1 (length s)) b.0 b.1 b.3
    where
      go : (t : Bool) (k : A) (next : ℕ) → when t (λ _. refused NotAllowed next) (λ _. whole k next) ≡ whole a end → whole k next ≡ whole a end
      go true k next q = absurd (let z : ◌≡◌ {A = ℕ} 0 1 = cc in omega arith)
      go false k next q = q

  pub job_script : (j : Job) (end : ℕ) → job s ≡ whole j end → (next : ℕ) × (script s ≡ whole j.script next)
  unfolding job
  job_script j end e =
      let c = and_then_whole (script s) (after_script s) j end (alone_whole (and_then (script s) (after_script s)) e) in
      let h = and_then_whole (proposal (enough s) (length c.0.templates) (length c.0.program) s 0 c.1) (λ hs end. whole (record { script = c.0; proposal = hs }) end) j end c.3 in
      let q : record { script = c.0; proposal = h.0 } ≡ j = cc h.3 in
      (c.1, subst (λ (k : Job). script s ≡ whole k.script c.1) q c.2)

  pub job_parts : (j : Job) (end : ℕ) → job s ≡ whole j end → PartsRead s j.script
  job_parts j end e = let read = job_script j end e in script_parts j.script read.0 read.1

-- A script has few templates.
templates_few : (f : ℕ) (ruled : ℕ → Bool) (s : List ℕ) (count at : ℕ) (φs : List Items) (end : ℕ) → count ≤ most_templates
    → templates f ruled s count at ≡ whole φs end → count + length φs ≤ most_templates
unfolding templates
templates_few zero ruled s count at φs end l e = never_unfinished e
templates_few (suc f) ruled s count at φs end l e = elim (templates_whole f ruled s count at φs end e) [
  | inl r ↦ rw r.no_more (omega arith)
  | inr r ↦
      let few = r.few in
      let rest = templates_few f ruled s (count + 1) r.past r.rest end (omega arith) r.reads_rest in
      rw r.is_more (omega arith)
]

pub few_templates : (s : List ℕ) (π : Script) → PartsRead s π → length π.templates ≤ 31
few_templates s π P = omega (arith, templates_few (enough s) (declared π.vocabulary.rules) s 0 P.first π.templates P.second (omega arith) P.templates_read)

-- The offsets of the templates.
template_at_lem : (φs : List Items) (t : ℕ) → 1 ≤ t → template_at φs t ≡ get_or φs (t - 1) none
unfolding template_at
template_at_lem [] t l = refl
template_at_lem (φ ∷ φs) zero l = absurd (omega arith)
template_at_lem (φ ∷ φs) (suc zero) l = refl
template_at_lem (φ ∷ φs) (suc (suc t)) l =
    let a : suc (suc t) - 1 ≡ suc t = omega arith in
    let b : suc t - 1 ≡ t = omega arith in
    rw a (rw b at (template_at_lem φs (suc t) (omega arith)))

starts_at : (ruled : ℕ → Bool) (s : List ℕ) (φs : List Items) (count : ℕ) (starts : List ℕ) → Located ruled s φs count starts → StartsAt s φs starts
starts_at ruled s φs count starts L t l m =
    let at = get_or starts t 0 in
    let fuel = (length s - at) + (length s - at) + 2 in
    let q = L.counted in
    let r = L.located t l (omega arith) fuel (omega arith) in
    record { ruled = ruled; fuel = fuel; end = r.0; reads = r.1 ∙ ap (λ (φ : Items). whole φ r.0) (sym (template_at_lem φs t l)) }

-- The variables that some statement names.
names_are : (π : Script) (names : ℕ) → Names (named π.program) names → NamesAre π names
names_are π names N v l = go (ltb v 4) refl
  where
    go : (t : Bool) → ltb v 4 ≡ t → member names v ≡ named π.program (cond t (Program.template_variable v) (string_variable (v - 4)))
    go true e = N.holds (Program.template_variable v) (ltb-true v 4 e)
    go false e =
        let m = ltb-false v 4 e in
        let q : 4 + (v - 4) ≡ v = omega arith in
        rw q at (N.holds (string_variable (v - 4)) (omega arith))

-- The tables of a script that was read.
pub script_tables : (s : List ℕ) (π : Script) (end : ℕ) (r : ScriptRead) → script s ≡ whole π end → ScriptKept s π r
    → ScriptTables π s r.templates.count r.templates.starts r.points.count r.points.places r.points.named
script_tables s π end r e K =
    let few = few_templates s π (script_parts s π end e) in
    let L = K.templates in
    let P = K.program in
    let count_is = L.counted in
    record {
      count_is = count_is;
      few_templates = omega arith;
      start = starts_at _ s π.templates _ _ L;
      points_are = P.points;
      few_points = P.most;
      statement = λ p f. record {
        is = P.statement p f;
        ranges = (P.stands p f).ranges;
        template_there = rw (count_is, ← P.statement p f) (P.stands p f).template_there;
      };
      points_there_lem = P.points_there_lem;
      names_are = names_are π _ P.names;
    }

-- The gaps of its templates.
pub gaps_table : (π : Script) (s : List ℕ) (count : ℕ) (starts : List ℕ) (points : ℕ) (places : List ℕ) (names : ℕ) → ScriptTables π s count starts points places names → (gaps : List ℕ)
    → ((φs : List Items) → StartsAt s φs starts → count ≡ length φs → (t : ℕ) → t ≤ count → t < 32 → GapsAre (get_or gaps t 0) (template_at φs t)) → GapsTable gaps π.templates
gaps_table π s count starts points places names T gaps told t l =
    let few = T.few_templates in
    let is = T.count_is in
    told π.templates T.start is t (omega (arith, l, is)) (omega (arith, l, is, few))
