-- A job that was read: its parts as the check goes by them, and the verdicts of its reading and of its covering.
use Prim.Native.Nat.{ℕ}
use mathlib.Core.Path.{◌≡◌, subst}
use mathlib.Core.List.{List}
use Rattle.std.specs.Prelude.{Result, Ok, Err}
use Rattle.verdicts.specs.declared.Cover.{Cover}
use Rattle.verdicts.specs.declared.Cover.TheVariants.{Start, Step}
use Rattle.verdicts.specs.declared.Refusal.{Refusal}
use Rattle.verdicts.specs.declared.Verdict.{Verdict}
use Rattle.verdicts.specs.declared.Verdict.TheVariants.{Refused}
use Rattle.verdicts.specs.Printed.{cover_numbers, numbers_of}
use Rattle.commands.specs.declared.Position.{Position}
use Rattle.commands.specs.declared.ReadError.{ReadError}
use Rattle.commands.specs.Reading.{whole}
use Rattle.programs.proofs.Laws.{agrees_with_whole, agrees_with_refuses}
use Rattle.summaries.specs.Summaries.{Environment, entries}
use Rattle.jobs.specs.declared.ScriptRead.{ScriptRead}
use Rattle.jobs.specs.Job.{Script, Job, job}
use Rattle.jobs.specs.Inner.Promises.{JobKept, JobReads}
use Rattle.jobs.specs.JobVerdict.{AllCovered, ScriptVerdict, start_uncovered, step_uncovered, JobVerdict, unreadable, readable}
use Rattle.jobs.proofs.Told.{unreadable_at}
use Rattle.pages.specs.Inner.Gaps.{GapsTable}
use Rattle.covering.specs.Inner.Promises.{Covers}
use Rattle.covering.proofs.Laws.{tables_of}
use Rattle.shows.specs.declared.TemplateTables.{TemplateTables}
use Rattle.shows.specs.Inner.Promises.{TabledBy}
use Rattle.checker.specs.Inner.Promises.{ReadAt}

-- 9 and 10.
module _ {π : Script} {E : ℕ → Environment} where
  pub uncovered : (r : Result (Unit {0}) Cover) → Covers π E r → (c : Cover) → r ≡ Err c → ScriptVerdict π E (cover_numbers c)
  uncovered r h c e = go c (subst (Covers π E) e h)
    where
      go : (c : Cover) → Covers π E (Err c) → ScriptVerdict π E (cover_numbers c)
      go (Start v) f = start_uncovered f.variable f.fails f.before
      go (Step p next v) f = rw f.next_is (step_uncovered f.second f.start f.variable f.fails f.before)

  pub covered : (r : Result (Unit {0}) Cover) → Covers π E r → (u : Unit {0}) → r ≡ Ok u → AllCovered π E
  covered r h u e = subst (Covers π E) e h

module _ (s : List ℕ) (j : Job) (end : ℕ) (reads : job s ≡ whole j end) where
  -- What is known of its parts.
  pub read_at : (heads : List ℕ) (read : ScriptRead) → JobKept s heads j read → (gaps : List ℕ) → GapsTable gaps j.script.templates → (templates : TemplateTables) → TabledBy s gaps read.templates.starts read.templates.count templates
      → ReadAt s read.tables templates read.templates.count read.templates.starts read.points.count read.points.places heads j
  read_at heads read K gaps table templates tabled =
      let T = tables_of s heads j end read reads K in
      record {
        end = end;
        reads = reads;
        vocabulary = K.of_script.vocabulary;
        located = K.of_script.templates;
        tabled = tabled j.script.templates table T.of_script.start T.of_script.count_is T.of_script.few_templates;
        names = read.points.named;
        parts = T;
      }

-- 1 to 8.
pub refused : (s heads : List ℕ) (r : Result (ScriptRead × Position) ReadError) → JobReads s heads r → (e : ReadError) → r ≡ Err e → (f : Refusal) → f ≡ unreadable_at 0 e
    → JobVerdict s (numbers_of (Refused f))
refused s heads r h e q f is = rw is (unreadable (agrees_with_refuses (JobKept s heads) (job s) r e q h))

-- A job that was read whole has the verdict that is found for it.
pub read_whole : (s heads : List ℕ) (r : Result (ScriptRead × Position) ReadError) → JobReads s heads r → (read : ScriptRead) (at : Position) → r ≡ Ok (read, at) → (v : Verdict)
    → ((j : Job) (end : ℕ) → job s ≡ whole j end → JobKept s heads j read → ScriptVerdict j.script (entries j.proposal) (numbers_of v)) → JobVerdict s (numbers_of v)
read_whole s heads r h read at e v found =
    let w = agrees_with_whole (JobKept s heads) (job s) r read at e h in
    readable w.reads (found w.tree w.end w.reads w.holds)
