-- The proposal of what is held, by computation (document 02, F-1), and what covering asks of points that no run reaches.
use Prim.Native.Nat.{ℕ}
use native.Mathlib.Omega.{arith}
use mathlib.Core.Path.{◌≡◌, refl}
use mathlib.Core.List.{[], ◌∷◌}
use mathlib.Core.Bool.{true, false}
use lib.Dec.{ltb}
use Rattle.programs.specs.Program.{set_template, show, step, statement_at, named}
use Rattle.summaries.specs.Proposal.{root, edge, string, gap_from, attribute_gap_from, claim, any_at, one_string, any_string}
use Rattle.summaries.specs.Summaries.{Environment, says_claim, says_string, same_code, held, entries}
use Rattle.summaries.specs.ProposalOf.{each, template_items, variable_strings, proposal_of}
use Rattle.summaries.specs.WrittenProposal.{written_proposal}
use Rattle.jobs.specs.Job.{Script}
use Rattle.jobs.specs.JobVerdict.{AllCovered}
use Rattle.jobs.specs.LeastEntries.{proposal_bytes}
use Rattle.worked_examples.specs.J1.{proposal_part}
use Rattle.worked_examples.proofs.ReadingJ1.{j1_job}

-- What J1's proposal says is written as document 01 has it.
pub j1_proposal : proposal_bytes j1_job.script (entries j1_job.proposal) ≡ proposal_part
unfolding proposal_bytes entries same_code
j1_proposal = refl

-- Where nothing is held there is no head.
pub nothing_held : written_proposal (proposal_of 2 3 (λ p. record { template = λ x c. false; string = λ y s. false })) ≡ 0x4F ∷ []
unfolding proposal_of written_proposal
nothing_held = refl

-- Items rise by command, then operands, however they were found; "any string" stands alone at its place, and nowhere else.
pub items_rise : template_items 3 (held says_claim (
    claim (attribute_gap_from 0 3) ∷ claim (gap_from 1 2) ∷ claim (gap_from 0 3) ∷ any_at 2 1 ∷ claim (string 2 1 5) ∷ claim (string 2 0 63) ∷ claim (string 2 0 5)
    ∷ claim (string 1 7 0) ∷ claim (edge 2 0 1) ∷ claim (edge 1 1 0) ∷ claim (edge 1 0 3) ∷ claim (root 3) ∷ claim (root 0) ∷ []))
    ≡ claim (root 0) ∷ claim (root 3) ∷ claim (edge 1 0 3) ∷ claim (edge 1 1 0) ∷ claim (edge 2 0 1) ∷ claim (string 1 7 0) ∷ claim (string 2 0 5)
    ∷ claim (string 2 0 63) ∷ any_at 2 1 ∷ claim (gap_from 0 3) ∷ claim (gap_from 1 2) ∷ claim (attribute_gap_from 0 3) ∷ []
unfolding template_items held same_code
items_rise = refl

pub any_alone : variable_strings (held says_string (one_string 0 ∷ one_string 5 ∷ any_string ∷ [])) ≡ any_string ∷ []
unfolding variable_strings held
any_alone = refl

-- All 64 named strings are not any string: they stay listed.
pub all_listed : variable_strings (λ s. ltb s 64) ≡ each 64 (λ s. one_string s ∷ [])
unfolding variable_strings each
all_listed = refl

-- Point 0 shows x0 and stays where it is; no run reaches point 1, which makes x0 template 1 and goes on to point 0.
abbrev unreached : Script
unreached = record {
  vocabulary = j1_job.script.vocabulary;
  templates = j1_job.script.templates;
  program = step (show 0) 0 0 ∷ step (set_template 0 1) 0 0 ∷ [];
}

-- It counts like any other point: whatever covers holds template 1 at point 0, beside the start.
pub unreached_counts : (F : ℕ → Environment) → AllCovered unreached F → ((F 0).template 0 (root 1) ≡ true) × ((F 0).template 0 (root 0) ≡ true)
unfolding statement_at named
unreached_counts F c = (c.steps 1 false 0 (omega arith) refl (root 1) refl, c.start 0 (omega arith) refl (root 0) refl)
