-- What the call answers is the one outcome, and with what it writes a job is accepted whenever any is.
use Prim.Native.Nat.{ℕ, suc, ◌+◌, ◌≤◌, ◌<◌}
use native.Mathlib.Omega.{arith}
use native.Mathlib.Decide.{dec_le}
use mathlib.Core.Path.{◌≡◌, refl, ap, subst, ◌∙◌}
use mathlib.Core.List.{List, [], ◌∷◌, ◌++◌}
use lib.ListN.{length, get_or, take, drop, replicate, length-append, length-drop, length-replicate, get_or-append}
use lib.Seq.{length-take-le}
use Rattle.std.specs.Prelude.{Result, Ok, Err, MatchResult, IsErrAnd}
use Rattle.summaries.proofs.Laws as Summaries
use Rattle.verdicts.specs.declared.Refusal.{Refusal}
use Rattle.verdicts.specs.declared.Refusal.TheVariants as Refusals
use Rattle.verdicts.specs.Printed.{Writing}
use Rattle.verdicts.specs.Printed.{unreadable as unreadable_at}
use Rattle.verdicts.specs.TheVerdict.{TheVerdict}
use Rattle.verdicts.proofs.Told.{form_refuses}
use Rattle.commands.specs.declared.Position.{Position}
use Rattle.commands.specs.declared.ReadError.{ReadError}
use Rattle.programs.proofs.Laws.{WholeAs, agrees_with_whole, agrees_with_refuses}
use Rattle.summaries.specs.Summaries.{Environment}
use Rattle.summaries.specs.ProposalOf.{proposal_of}
use Rattle.summaries.specs.WrittenProposal.{written_proposal}
use Rattle.jobs.specs.declared.ScriptRead.{ScriptRead}
use Rattle.jobs.specs.Job.{Script, script}
use Rattle.jobs.specs.LeastEntries.{Least, proposal_bytes}
use Rattle.jobs.specs.Inference.{script_slice, work_words, outcome, zeros, stored_at, Infers, unreadable, work_too_short, does_not_fit, proposal_written, Completes}
use Rattle.jobs.specs.Inner.Promises.{ScriptKept, SliceReads}
use Rattle.jobs.proofs.Tables.{alone_whole, script_tables}
use Rattle.round_trip.specs.InRange.{Bytes}
use Rattle.least_entries.proofs.Accepted.{accepted_if_any}
use Rattle.states.specs.Inner.States.{entries_in}
use Rattle.inference.specs.Inner.Promises.{TablesAre, proposal_in, WritesOut}
use Rattle.inference.proofs.Outcomes.{the_outcome, stored_there}

-- A work area whose first words were cleared.
pub first_cleared : (work cleared : List ℕ) (n : ℕ) → n ≤ length work → cleared ≡ replicate (length (take n work)) 0
    → (length (cleared ++ drop n work) ≡ length work) × ((i : ℕ) → i < n → get_or (cleared ++ drop n work) i 0 ≡ 0)
first_cleared work cleared n l e =
    let size : length (take n work) ≡ n = length-take-le n work l in
    let is : cleared ≡ replicate n 0 = e ∙ ap (λ (k : ℕ). replicate k 0) size in
    let count : length cleared ≡ n = ap length is ∙ length-replicate n 0 in (
      omega (arith, length-append cleared (drop n work), length-drop n work, count),
      λ i h. get_or-append cleared (drop n work) 0 i (omega arith) ∙ rw is (Summaries.zeros n i),
    )

-- The two ways of writing out.
pub no_room_out : (bytes buffer : List ℕ) (place n : ℕ) → n ≡ length bytes → length buffer < place + n → WritesOut bytes buffer place (Err (Refusals.NoRoom n)) buffer
no_room_out bytes buffer place n e l = record { short = λ h. (rw e refl, refl); fits = λ h. absurd (omega arith) }

pub written_out : (bytes buffer : List ℕ) (place n : ℕ) → n ≡ length bytes → place + n ≤ length buffer → (m : ℕ) (after : List ℕ) → (m ≡ length bytes) × (after ≡ stored_at place bytes buffer)
    → WritesOut bytes buffer place (Ok m) after
written_out bytes buffer place n e l m after w = record { short = λ h. absurd (omega arith); fits = λ h. (rw w.0 refl, w.1) }

-- The bytes of a slice.
pub are_bytes_lem : (s : List ℕ) → ((i : ℕ) → get_or s i 0 < 256) → Bytes s
unfolding Bytes
are_bytes_lem [] f = tt
are_bytes_lem (b ∷ s) f = (f 0, are_bytes_lem s (λ i. f (suc i)))

counted : {a b c d : ℕ} (E : ℕ → Environment) → a ≡ b → c ≡ d → written_proposal (proposal_of a c E) ≡ written_proposal (proposal_of b d E)
counted {a} {b} {c} {d} E e f = ap (λ (k : ℕ). written_proposal (proposal_of k c E)) e ∙ ap (λ (k : ℕ). written_proposal (proposal_of b k E)) f

-- Reading, where a refusal is told with the slice.
module _ (P : ReadError → Refusal → Type 0) where
  abbrev pub Told : Result (ScriptRead × Position) ReadError → Result (ScriptRead × Position) Refusal → Type 0
  Told x y = MatchResult x (λ v. y ≡ Ok v) (λ e. IsErrAnd y (P e))

  pub told_read : (s : List ℕ) (x : Result (ScriptRead × Position) ReadError) (y : Result (ScriptRead × Position) Refusal) → Told x y → (v : ScriptRead × Position) → y ≡ Ok v → SliceReads s x → SliceReads s (Ok v)
  told_read s x y cases v q h = go x (subst (Told x) q cases) h
    where
      go : (w : Result (ScriptRead × Position) ReadError) → Told w (Ok v) → SliceReads s w → SliceReads s (Ok v)
      go (Ok u) e h = let same : u ≡ v = cc in rw (← same) h
      go (Err u) e h = absurd e

module _ (s work buffer : List ℕ) (place : ℕ) where
  -- What is promised of an answer and of the memory that it leaves.
  abbrev pub Answers : Writing → List ℕ → List ℕ → Type 0
  Answers r work' buffer' = TheVerdict (Infers s work buffer place) (outcome r work' buffer') × Completes s place (outcome r work' buffer')

  pub unreadable_answers : (e : ReadError) → SliceReads s (Err e) → Answers (Err (unreadable_at e.form e.at 0)) work buffer
  unreadable_answers e h = (the_outcome (unreadable (agrees_with_refuses (ScriptKept s) (script_slice s) (Err e) e refl h)), λ n. absurd (form_refuses e.form n))

  pub told_answers : (P : ReadError → Refusal → Type 0) (x : Result (ScriptRead × Position) ReadError) (y : Result (ScriptRead × Position) Refusal) → Told P x y → (r : Refusal) → y ≡ Err r
      → ((e : ReadError) → P e r → r ≡ unreadable_at e.form e.at 0) → SliceReads s x → (z : Writing) → z ≡ Err r → Answers z work buffer
  told_answers P x y cases r q told h z is = rw is (go x (subst (Told P x) q cases) h)
    where
      go : (w : Result (ScriptRead × Position) ReadError) → Told P w (Err r) → SliceReads s w → Answers (Err r) work buffer
      go (Ok v) e h = let n : ◌≡◌ {A = ℕ} 0 1 = cc in absurd (omega arith)
      go (Err u) e h = rw (told u e) (unreadable_answers u h)

  module _ (read : ScriptRead) (end : Position) (h : SliceReads s (Ok (read, end))) where
    abbrev pub read_whole : WholeAs (λ π at. ScriptKept s π read) (script_slice s) end
    read_whole = agrees_with_whole (ScriptKept s) (script_slice s) (Ok (read, end)) read end refl h

    pub tables_are : TablesAre read_whole.tree s read
    unfolding script_slice
    tables_are = script_tables s read_whole.tree read_whole.end read (alone_whole s (script s) read_whole.reads) read_whole.holds

    pub short_answers : length work < work_words → Answers (Err (Refusals.NoRoom work_words)) work buffer
    short_answers l = (the_outcome (work_too_short read_whole.reads l), λ n. absurd (omega arith))

    module _ (bytes : Bytes s) (enough : work_words ≤ length work) (solved : List ℕ) (least : (π : Script) → TablesAre π s read → Least π (entries_in read.points.count solved)) where
      E : ℕ → Environment
      E = entries_in read.points.count solved

      same : proposal_in read.templates.count read.points.count solved ≡ proposal_bytes read_whole.tree E
      unfolding proposal_bytes E
      same = counted (entries_in read.points.count solved) tables_are.count_is tables_are.points_are

      is_least : Least read_whole.tree E
      unfolding E
      is_least = least read_whole.tree tables_are

      pub written_answers : (r : Writing) (buffer' work' : List ℕ) → WritesOut (proposal_in read.templates.count read.points.count solved) buffer place r buffer'
          → work' ≡ zeros solved → length solved ≡ length work → Answers r work' buffer'
      written_answers r buffer' work' W cleared room = go (dec_le (place + length (proposal_bytes read_whole.tree E)) (length buffer))
        where
          z : work' ≡ zeros work
          z = cleared ∙ ap (λ (k : ℕ). replicate k 0) room

          out : WritesOut (proposal_bytes read_whole.tree E) buffer place r buffer'
          out = rw same at W

          go : Dec (place + length (proposal_bytes read_whole.tree E) ≤ length buffer) → Answers r work' buffer'
          go (yes fits) =
              let w = out.fits fits in
              rw (w.0, w.1, z) (
                the_outcome (proposal_written read_whole.reads enough is_least fits),
                λ n. rw (stored_there place (proposal_bytes read_whole.tree E) buffer (omega arith)) (accepted_if_any s read_whole.tree read_whole.end E bytes read_whole.reads is_least),
              )
          go (no more) =
              let w = out.short (omega arith) in
              rw (w.0, w.1, z) (the_outcome (does_not_fit read_whole.reads enough is_least (omega arith)), λ n. absurd (omega arith))
