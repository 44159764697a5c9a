-- What reading a job keeps of it is what the check of its covering asks for.
use Prim.Native.Nat.{ℕ, zero, suc, ◌+◌, ◌-◌, ◌≤◌, ◌<◌}
use mathlib.Core.Path.{◌≡◌, refl}
use mathlib.Core.Logic.{◌⊎◌, inl, inr}
use mathlib.Core.List.{List, []}
use mathlib.Core.Bool.{Bool, true, false}
use native.Mathlib.Omega.{arith}
use lib.ListN.{length}
use lib.Dec.{eqb}
use borrow.Author.Tests.{eqb-true, eqb-false, lt-ltb, le-ltb}
use Rattle.commands.specs.declared.Context.TheVariants.{Rules, TemplateHoldings, StringHoldings}
use Rattle.commands.specs.Commands.{byte, allowed}
use Rattle.commands.specs.Reading.{whole, enough}
use Rattle.commands.proofs.Laws.{moved, on_command_whole}
use Rattle.vocabularies.specs.Vocabulary.{Vocabulary}
use Rattle.vocabularies.specs.VocabularyReading.{rules, vocabulary}
use Rattle.summaries.specs.Proposal.{Head}
use Rattle.summaries.specs.ProposalReading.{variable_of, holding_context}
use Rattle.summaries.specs.Summaries.{under}
use Rattle.summaries.specs.Inner.Listed.{Listed}
use Rattle.summaries.specs.Inner.Promises.{Stand, Kept}
use Rattle.jobs.specs.declared.ScriptRead.{ScriptRead}
use Rattle.jobs.specs.Job.{Job, job}
use Rattle.jobs.specs.Inner.Promises.{JobKept}
use Rattle.jobs.proofs.Tables.{job_script, script_parts, few_templates, script_tables}
use Rattle.sets.proofs.Booleans.{or_cases}
use Rattle.entries.proofs.Reading.{holdings_listed}
use Rattle.covering.specs.Inner.Tables.{EntriesAt, Tables}

-- A job begins with its vocabulary, so no item stands at offset 0.
begins : (f : ℕ) (s : List ℕ) (D : Vocabulary) (end : ℕ) → rules f s [] 0 ≡ whole D end → (byte s 0 ≡ 0x01) ⊎ (byte s 0 ≡ 0x05)
unfolding rules allowed
begins zero s D end e = absurd (let z : ◌≡◌ {A = ℕ} 0 1 = cc in omega arith)
begins (suc f) s D end e =
    let (code, next, stands, e₁) = on_command_whole Rules s 0 _ D end e in
    elim (or_cases (eqb (byte s 0) 0x01) (eqb (byte s 0) 0x05) (moved Rules s 0 code next stands).permitted) [
      | inl h ↦ inl (eqb-true (byte s 0) 0x01 h)
      | inr h ↦ inr (eqb-true (byte s 0) 0x05 h)
    ]

abbrev NoneFirst : List ℕ → Type 0
NoneFirst s = (allowed TemplateHoldings (byte s 0) ≡ false) × (allowed StringHoldings (byte s 0) ≡ false)

none_first : (s : List ℕ) → (byte s 0 ≡ 0x01) ⊎ (byte s 0 ≡ 0x05) → NoneFirst s
unfolding allowed
none_first s (inl e) = (rw e, rw e)
none_first s (inr e) = (rw e, rw e)

-- The items under a head.
listed : (count : ℕ) (s : List ℕ) (hs : List Head) (p v offset : ℕ) → count ≤ 31 → allowed (holding_context (variable_of v)) (byte s 0) ≡ false
    → Stand count s hs p v offset → Listed (holding_context (variable_of v)) s offset (under hs p (variable_of v))
unfolding Listed
listed count s hs p v offset few first S = go (eqb offset 0) refl
  where
    go : (t : Bool) → eqb offset 0 ≡ t → Listed (holding_context (variable_of v)) s offset (under hs p (variable_of v))
    go true e = let q = eqb-true offset 0 e in rw (S.none q, q) first
    go false e =
        let r = S.some (eqb-false offset 0 e) ((length s - offset) + (length s - offset) + 2) (omega arith) in
        holdings_listed ((length s - offset) + (length s - offset) + 2) (holding_context (variable_of v)) count s 0 offset (under hs p (variable_of v)) r.0 few r.1

entries_at : (count : ℕ) (s heads : List ℕ) (hs : List Head) → count ≤ 31 → NoneFirst s → Kept count s 0 heads hs → (p : ℕ) → p < 32 → EntriesAt s heads hs p
entries_at count s heads hs few first K p l = record {
  template = λ x f. rw (lt-ltb x 4 f) at (listed count s hs p x _ few (rw (lt-ltb x 4 f) first.0) (K.stand p x l (omega arith) (omega arith)));
  string = λ y f.
      let q : 4 + y - 4 ≡ y = omega arith in
      rw (le-ltb (4 + y) 4 (omega arith), q) at (listed count s hs p (4 + y) _ few (rw (le-ltb (4 + y) 4 (omega arith)) first.1) (K.stand p (4 + y) l (omega arith) (omega arith)));
}

-- What `first_uncovered` asks for, of a job that was read.
pub tables_of : (s heads : List ℕ) (j : Job) (end : ℕ) (r : ScriptRead) → job s ≡ whole j end → JobKept s heads j r
    → Tables j s r.templates.count r.templates.starts r.points.count r.points.places r.points.named heads
unfolding vocabulary
tables_of s heads j end r e K =
    let read = job_script s j end e in
    let parts = script_parts s j.script read.0 read.1 in
    record {
      of_script = script_tables s j.script read.0 r read.1 K.of_script;
      entry =
          entries_at (length j.script.templates) s heads j.proposal (few_templates s j.script parts)
          (none_first s (begins (enough s) s j.script.vocabulary parts.first parts.vocabulary_reads)) K.proposal;
    }
