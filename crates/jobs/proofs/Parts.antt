-- A script and a job, part by part: what each part's reading tells of the whole.
use Prim.Native.Nat.{ℕ, ◌≤◌}
use mathlib.Core.Path.{◌≡◌, refl, ap, ◌∙◌, subst, fun_ext}
use mathlib.Core.List.{List}
use mathlib.Core.Bool.{Bool, true, false}
use lib.ListN.{length}
use lib.Dec.{leb, ltb}
use borrow.Author.Tests.{le-leb, lt-leb, lt-ltb, le-ltb}
use Rattle.std.specs.Prelude.{Result, Ok, Err}
use Rattle.verdicts.specs.declared.Form.TheVariants.{TooLong, NotAllowed}
use Rattle.sets.specs.Sets.{member}
use Rattle.commands.specs.declared.Position.{Position}
use Rattle.commands.specs.declared.ReadError.{ReadError}
use Rattle.commands.specs.Reading.{Read, whole, refused, and_then, when, enough}
use Rattle.commands.specs.Inner.Parts.{AgreesAs, AgreesWith}
use Rattle.vocabularies.specs.declared.Tables.{Tables}
use Rattle.vocabularies.specs.Vocabulary.{Vocabulary, declared}
use Rattle.vocabularies.specs.VocabularyReading.{vocabulary, most_bytes, alone}
use Rattle.vocabularies.specs.Inner.Promises.{Describes, VocabularyReads}
use Rattle.pages.specs.declared.Templates.{Templates}
use Rattle.pages.specs.Items.{Items}
use Rattle.pages.specs.ItemReading.{templates}
use Rattle.pages.specs.Inner.Promises.{Located, TemplatesFrom}
use Rattle.programs.specs.declared.Points.{Points}
use Rattle.programs.specs.Program.{Statement}
use Rattle.programs.specs.ProgramReading.{program}
use Rattle.programs.specs.Inner.Promises.{Tabled, ProgramReads}
use Rattle.programs.proofs.Laws.{WholeAs, agrees_whole, whole_then, agrees_refuses, agrees_with_whole, agrees_with_refuses, whole_agrees_with, refused_agrees_with, enough_enough}
use Rattle.summaries.specs.Proposal.{Head}
use Rattle.summaries.specs.ProposalReading.{proposal}
use Rattle.summaries.specs.Inner.Promises.{Kept, ProposalReads}
use Rattle.jobs.specs.declared.ScriptRead.{ScriptRead}
use Rattle.jobs.specs.Job.{Script, Job, script, job}
use Rattle.jobs.specs.Inference.{script_slice}
use Rattle.jobs.specs.Inner.Promises.{ScriptKept, JobKept, short, FewEnough, EndedAt, ScriptReads, SliceReads, JobReads}

-- What is read after each part.
module _ (s : List ℕ) where
  abbrev pub of_parts : Vocabulary → List Items → List Statement → Script
  of_parts D φs ts = record { vocabulary = D; templates = φs; program = ts }

  abbrev pub after_templates : Vocabulary → List Items → ℕ → Read Script
  after_templates D φs next = and_then (program (enough s) (length φs) s next) λ ts end. whole (of_parts D φs ts) end

  abbrev pub after_vocabulary : Vocabulary → ℕ → Read Script
  after_vocabulary D next = and_then (templates (enough s) (declared D.rules) s 0 next) λ φs after. after_templates D φs after

  -- Bytes that are too many are refused; otherwise the script is what its parts are.
  pub too_long : (e : ReadError) → FewEnough s (Err e) → ScriptReads s (Err e)
  too_long e h = refused_agrees_with (ScriptKept s) (short s (script s)) e (rw (h.1, lt-leb (length s) most_bytes h.0))

  module _ (fits : length s ≤ most_bytes) where
    script_whole : (π : Script) (end : ℕ) (r : ScriptRead) (p : Position) → script s ≡ whole π end → p.at ≡ end → ScriptKept s π r → ScriptReads s (Ok (r, p))
    script_whole π end r p e ends K = whole_agrees_with (ScriptKept s) (short s (script s)) r p π end (rw (le-leb (length s) most_bytes fits) e) ends K

    script_refuses : (e : ReadError) → script s ≡ refused e.form e.at → ScriptReads s (Err e)
    script_refuses e q = refused_agrees_with (ScriptKept s) (short s (script s)) e (rw (le-leb (length s) most_bytes fits) q)

-- The vocabulary is refused, or is there.
pub vocabulary_refuses : (s : List ℕ) (e : ReadError) → length s ≤ most_bytes → VocabularyReads s (Err e) → ScriptReads s (Err e)
unfolding script
vocabulary_refuses s e fits reads = script_refuses s fits e (rw (agrees_with_refuses (Describes s) (vocabulary s) (Err e) e refl reads))

pub record VocabularyThere (s : List ℕ) (v : Tables) (next : Position) : Type 0 where
  pub fits : length s ≤ most_bytes
  pub reads : VocabularyReads s (Ok (v, next))

module _ {s : List ℕ} {v : Tables} {next : Position} (there : VocabularyThere s v next) where
  v_tree : WholeAs (λ D end. Describes s D v) (vocabulary s) next
  v_tree = agrees_with_whole (Describes s) (vocabulary s) (Ok (v, next)) v next refl there.reads

  abbrev D : Vocabulary
  D = v_tree.tree

  after_v : script s ≡ after_vocabulary s D next.at
  unfolding script
  after_v = whole_then (λ D end. Describes s D v) (vocabulary s) next v_tree (after_vocabulary s)

  abbrev LocatedHere : List Items → Templates → Type 0
  LocatedHere φs t = Located (declared D.rules) s φs t.count t.starts

  -- The templates are refused, or are there.
  t_agree : (x : Result (Templates × Position) ReadError) → TemplatesFrom (member v.declared) s next.at x
      → AgreesWith LocatedHere (templates (enough s) (declared D.rules) s 0 next.at) x
  t_agree x reads = subst (λ (ruled : ℕ → Bool). TemplatesFrom ruled s next.at x) (fun_ext v_tree.holds.declares) reads (enough s) (enough_enough s next.at)

  pub templates_refuse : (e : ReadError) → TemplatesFrom (member v.declared) s next.at (Err e) → ScriptReads s (Err e)
  templates_refuse e reads =
      script_refuses s there.fits e (after_v ∙ rw (agrees_with_refuses LocatedHere (templates (enough s) (declared D.rules) s 0 next.at) (Err e) e refl (t_agree (Err e) reads)))

pub record TemplatesThere (s : List ℕ) (v : Tables) (next : Position) (t : Templates) (next' : Position) : Type 0 where
  pub before : VocabularyThere s v next
  pub reads : TemplatesFrom (member v.declared) s next.at (Ok (t, next'))

module _ {s : List ℕ} {v : Tables} {next : Position} {t : Templates} {next' : Position} (there : TemplatesThere s v next t next') where
  t_tree : WholeAs (λ φs end. LocatedHere there.before φs t) (templates (enough s) (declared (D there.before).rules) s 0 next.at) next'
  t_tree =
      agrees_with_whole (LocatedHere there.before) (templates (enough s) (declared (D there.before).rules) s 0 next.at) (Ok (t, next')) t next' refl
      (t_agree there.before (Ok (t, next')) there.reads)

  abbrev φs : List Items
  φs = t_tree.tree

  after_t : script s ≡ after_templates s (D there.before) φs next'.at
  after_t =
      after_v there.before
      ∙ whole_then (λ φs end. LocatedHere there.before φs t) (templates (enough s) (declared (D there.before).rules) s 0 next.at) next' t_tree (after_templates s (D there.before))

  abbrev TabledHere : List Statement → Points → Type 0
  TabledHere ts p = Tabled s (length φs) p ts

  -- The program is the last part.
  p_agrees : (x : Result (Points × Position) ReadError) → ProgramReads s t.count next'.at x → AgreesWith TabledHere (program (enough s) (length φs) s next'.at) x
  p_agrees x reads = subst (λ (n : ℕ). ProgramReads s n next'.at x) t_tree.holds.counted reads (enough s) (enough_enough s next'.at)

  pub program_refuses : (e : ReadError) → ProgramReads s t.count next'.at (Err e) → ScriptReads s (Err e)
  program_refuses e reads =
      script_refuses s there.before.fits e (after_t ∙ rw (agrees_with_refuses TabledHere (program (enough s) (length φs) s next'.at) (Err e) e refl (p_agrees (Err e) reads)))

  pub program_last : (p : Points) (end : Position) → ProgramReads s t.count next'.at (Ok (p, end)) → ScriptReads s (Ok (record { tables = v; templates = t; points = p }, end))
  program_last p end reads =
      let h = agrees_with_whole TabledHere (program (enough s) (length φs) s next'.at) (Ok (p, end)) p end refl (p_agrees (Ok (p, end)) reads) in
      script_whole s there.before.fits (of_parts s (D there.before) φs h.tree) end.at (record { tables = v; templates = t; points = p }) end
      (after_t ∙ whole_then (λ ts at. TabledHere ts p) (program (enough s) (length φs) s next'.at) end h (λ ts at. whole (of_parts s (D there.before) φs ts) at)) refl
      (record { vocabulary = (v_tree there.before).holds; templates = t_tree.holds; program = h.holds })

-- Bytes that are read alone: not too many, and nothing after the last part.
module _ (s : List ℕ) where
  abbrev pub stops : {A : Type 0} → A → ℕ → Read A
  stops a end = when (ltb end (length s)) (λ _. refused NotAllowed end) (λ _. whole a end)

  alone_is : {A : Type 0} (r : Read A) → alone s r ≡ and_then (short s r) stops
  alone_is {A} r = go (leb (length s) most_bytes)
    where
      go : (b : Bool) → when b (λ _. and_then r stops) (λ _. refused TooLong 0) ≡ and_then (when b (λ _. r) (λ _. refused TooLong 0)) stops
      go true = refl
      go false = refl

  short_then : {A B : Type 0} (r : Read A) (k : A → ℕ → Read B) → short s (and_then r k) ≡ and_then (short s r) k
  short_then {A} {B} r k = go (leb (length s) most_bytes)
    where
      go : (b : Bool) → when b (λ _. and_then r k) (λ _. refused TooLong 0) ≡ and_then (when b (λ _. r) (λ _. refused TooLong 0)) k
      go true = refl
      go false = refl

  -- Where a byte follows, and where none does.
  pub more_follows : {A : Type 0} (a : A) (end : Position) (e : ReadError) → EndedAt s end.at (Err e) → stops a end.at ≡ refused e.form e.at
  more_follows a end e h = rw (h.1, lt-ltb end.at (length s) h.0)

  pub nothing_follows : {A : Type 0} (a : A) (end : ℕ) → length s ≤ end → stops a end ≡ whole a end
  nothing_follows a end l = rw (le-ltb end (length s) l)

-- A script that is a slice of its own.
module _ (s : List ℕ) where
  slice_is : script_slice s ≡ and_then (short s (script s)) (stops s)
  unfolding script_slice
  slice_is = alone_is s (script s)

  pub slice_refused : (e : ReadError) → ScriptReads s (Err e) → SliceReads s (Err e)
  slice_refused e reads = refused_agrees_with (ScriptKept s) (script_slice s) e (slice_is ∙ rw (agrees_with_refuses (ScriptKept s) (short s (script s)) (Err e) e refl reads))

  module _ (r : ScriptRead) (end : Position) (reads : ScriptReads s (Ok (r, end))) where
    slice_there : WholeAs (λ π at. ScriptKept s π r) (short s (script s)) end
    slice_there = agrees_with_whole (ScriptKept s) (short s (script s)) (Ok (r, end)) r end refl reads

    slice_stops : script_slice s ≡ stops s slice_there.tree end.at
    slice_stops = slice_is ∙ whole_then (λ π at. ScriptKept s π r) (short s (script s)) end slice_there (stops s)

    pub slice_longer : (e : ReadError) → EndedAt s end.at (Err e) → SliceReads s (Err e)
    slice_longer e h = refused_agrees_with (ScriptKept s) (script_slice s) e (slice_stops ∙ more_follows s slice_there.tree end e h)

    pub slice_whole : length s ≤ end.at → SliceReads s (Ok (r, end))
    slice_whole l = whole_agrees_with (ScriptKept s) (script_slice s) r end slice_there.tree end.at (slice_stops ∙ nothing_follows s slice_there.tree end.at l) refl slice_there.holds

-- A job: its script is refused, or is there.
module _ (s : List ℕ) where
  abbrev pub after_script : Script → ℕ → Read Job
  after_script π next = and_then (proposal (enough s) (length π.templates) (length π.program) s 0 next) λ hs end.
      whole (record { script = π; proposal = hs }) end

  job_is : job s ≡ and_then (and_then (short s (script s)) after_script) (stops s)
  unfolding job
  job_is = alone_is s (and_then (script s) after_script) ∙ ap (λ (r : Read Job). and_then r (stops s)) (short_then s (script s) after_script)

  pub script_refused : (e : ReadError) (heads : List ℕ) → ScriptReads s (Err e) → JobReads s heads (Err e)
  script_refused e heads reads = refused_agrees_with (JobKept s heads) (job s) e (job_is ∙ rw (agrees_with_refuses (ScriptKept s) (short s (script s)) (Err e) e refl reads))

  module _ (r : ScriptRead) (next : Position) (reads : ScriptReads s (Ok (r, next))) where
    there : WholeAs (λ π end. ScriptKept s π r) (short s (script s)) next
    there = agrees_with_whole (ScriptKept s) (short s (script s)) (Ok (r, next)) r next refl reads

    abbrev π : Script
    π = there.tree

    pub points_low : r.points.count ≤ 32
    points_low = there.holds.program.most

    job_goes : job s ≡ and_then (after_script π next.at) (stops s)
    job_goes = job_is ∙ ap (λ (x : Read Job). and_then x (stops s)) (whole_then (λ π end. ScriptKept s π r) (short s (script s)) next there after_script)

    -- The proposal is the last part.
    module _ (heads : List ℕ) where
      abbrev heads_from : Read (List Head)
      heads_from = proposal (enough s) (length π.templates) (length π.program) s 0 next.at

      abbrev KeptHere : List Head → ℕ → Type 0
      KeptHere hs end = Kept (length π.templates) s 0 heads hs

      h_agrees : (x : Result Position ReadError) → ProposalReads r.templates.count r.points.count s 0 next.at heads x → AgreesAs KeptHere heads_from x
      h_agrees x h =
          subst (λ (n : ℕ). ProposalReads (length π.templates) n s 0 next.at heads x) there.holds.program.points
          (subst (λ (n : ℕ). ProposalReads n r.points.count s 0 next.at heads x) there.holds.templates.counted h)
          (enough s) (enough_enough s next.at)

      pub proposal_refused : (e : ReadError) → ProposalReads r.templates.count r.points.count s 0 next.at heads (Err e) → JobReads s heads (Err e)
      proposal_refused e h =
          refused_agrees_with (JobKept s heads) (job s) e (job_goes ∙ rw (agrees_refuses KeptHere heads_from (Err e) e refl (h_agrees (Err e) h)))

      module _ (end : Position) (h : ProposalReads r.templates.count r.points.count s 0 next.at heads (Ok end)) where
        h_tree : WholeAs KeptHere heads_from end
        h_tree = agrees_whole KeptHere heads_from (Ok end) end refl (h_agrees (Ok end) h)

        abbrev whole_job : Job
        whole_job = record { script = π; proposal = h_tree.tree }

        job_stops : job s ≡ stops s whole_job end.at
        job_stops = job_goes ∙ rw (h_tree.reads, ← h_tree.ends)

        pub job_longer : (e : ReadError) → EndedAt s end.at (Err e) → JobReads s heads (Err e)
        job_longer e q = refused_agrees_with (JobKept s heads) (job s) e (job_stops ∙ more_follows s whole_job end e q)

        pub job_whole : length s ≤ end.at → JobReads s heads (Ok (r, end))
        job_whole l = whole_agrees_with (JobKept s heads) (job s) r end whole_job end.at (job_stops ∙ nothing_follows s whole_job end.at l) refl
            (record { of_script = there.holds; proposal = h_tree.holds })
