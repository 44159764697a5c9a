-- A job in range is written in bytes, with at most 31 templates and 32 points: no number is 256 or more.
use Prim.Native.Nat.{ℕ, ◌≤◌}
use native.Mathlib.Omega.{arith}
use mathlib.Core.List.{List, [], ◌∷◌, ◌++◌}
use lib.ListN.{length}
use Rattle.vocabularies.specs.Vocabulary.{Vocabulary, declared}
use Rattle.pages.specs.declared.Kind.TheVariants.{Template}
use Rattle.pages.specs.Items.{Items}
use Rattle.programs.specs.Program.{Act, copy_template, set_template, copy_string, set_string, plug, plug_string, show, show_framed, Statement, step, stop, Variable, template_variable, string_variable}
use Rattle.summaries.specs.Proposal.{Claim, root, edge, gap_from, attribute_gap_from, Holding, claim, any_at, one_string, Head}
use Rattle.jobs.specs.Job.{Job}
use Rattle.round_trip.specs.Written.{written_vocabulary, written_items}
use Rattle.round_trip.specs.WrittenJob.{written_template, written_templates, written_act, written_statement, written_program, written_holding, written_holdings, written_variable, written_head, written_proposal, written_job}
use Rattle.round_trip.specs.InRange.{Bytes}
use Rattle.round_trip.specs.JobInRange.{AllInRange, ActInRange, StatementInRange, StatementsInRange, HoldingInRange, HoldingsInRange, VariableInRange, HeadsInRange, JobInRange}
use Rattle.round_trip.proofs.Bytes.{both, items_bytes, vocabulary_bytes}

templates_bytes : (D : Vocabulary) (φs : List Items) → AllInRange D φs → Bytes (written_templates φs)
unfolding Bytes written_templates AllInRange
templates_bytes D [] i = omega arith
templates_bytes D (φ ∷ φs) i =
    let items = both (written_items φ) (0x27 ∷ []) (items_bytes Template (declared D.rules) φ i.0.items) (omega arith) in
    both (written_template φ) (written_templates φs) (omega arith, items) (templates_bytes D φs i.1)

pub variable_small : (v : Variable) → VariableInRange v → written_variable v ≤ 7
variable_small (template_variable x) i = omega arith
variable_small (string_variable y) i = omega arith

module _ (count points : ℕ) (c : count ≤ 31) (p : points ≤ 32) where
  act_bytes : (a : Act) → ActInRange count a → Bytes (written_act a)
  unfolding Bytes
  act_bytes (copy_template x x') i = omega arith
  act_bytes (set_template x t) i = omega arith
  act_bytes (copy_string y y') i = omega arith
  act_bytes (set_string y s) i = omega arith
  act_bytes (Act.any_string y) i = omega arith
  act_bytes (plug x x' g x'') i = omega arith
  act_bytes (plug_string x x' h y) i = omega arith
  act_bytes (show x) i = omega arith
  act_bytes (show_framed x t g) i = omega arith

  statement_bytes : (t : Statement) → StatementInRange count points t → Bytes (written_statement t)
  unfolding Bytes
  statement_bytes (step a n m) i = both (written_act a) (n ∷ m ∷ []) (act_bytes a i.0) (omega (arith, i.1, i.2))
  statement_bytes stop i = omega arith

  program_bytes : (ts : List Statement) → StatementsInRange count points ts → Bytes (written_program ts)
  unfolding Bytes written_program StatementsInRange
  program_bytes [] i = omega arith
  program_bytes (t ∷ ts) i = both (written_statement t) (written_program ts) (statement_bytes t i.0) (program_bytes ts i.1)

  pub holding_bytes : (v : Variable) (h : Holding) → HoldingInRange count v h → Bytes (written_holding h)
  unfolding Bytes
  holding_bytes (template_variable x) (claim (root t)) i = omega arith
  holding_bytes (template_variable x) (claim (edge n g t)) i = omega arith
  holding_bytes (template_variable x) (claim (Claim.string n h s)) i = omega arith
  holding_bytes (template_variable x) (claim (gap_from g n)) i = omega arith
  holding_bytes (template_variable x) (claim (attribute_gap_from h n)) i = omega arith
  holding_bytes (template_variable x) (any_at n h) i = omega arith
  holding_bytes (template_variable x) (one_string s) i = absurd i
  holding_bytes (template_variable x) Holding.any_string i = absurd i
  holding_bytes (string_variable y) (claim d) i = absurd i
  holding_bytes (string_variable y) (any_at n h) i = absurd i
  holding_bytes (string_variable y) (one_string s) i = omega arith
  holding_bytes (string_variable y) Holding.any_string i = omega arith

  holdings_bytes : (v : Variable) (hs : List Holding) → HoldingsInRange count v hs → Bytes (written_holdings hs)
  unfolding Bytes written_holdings HoldingsInRange
  holdings_bytes v [] i = tt
  holdings_bytes v (h ∷ hs) i = both (written_holding h) (written_holdings hs) (holding_bytes v h i.0) (holdings_bytes v hs i.1)

  proposal_bytes_lem : (hs : List Head) → HeadsInRange count points hs → Bytes (written_proposal hs)
  unfolding Bytes written_proposal HeadsInRange
  proposal_bytes_lem [] i = omega arith
  proposal_bytes_lem (h ∷ hs) i =
      let held = holdings_bytes h.variable h.holdings i.0.holdings in
      let v : written_variable h.variable ≤ 7 = variable_small h.variable i.0.variable in
      both (written_head h) (written_proposal hs) (omega arith, (omega (arith, i.0.point), (omega arith, held))) (proposal_bytes_lem hs i.1)

pub job_bytes : (j : Job) → JobInRange j → Bytes (written_job j)
unfolding written_job
job_bytes j i =
    let π = j.script in
    let u = written_vocabulary π.vocabulary in
    let v = written_templates π.templates in
    let w = written_program π.program in
    let count : length π.templates ≤ 31 = omega (arith, i.script.templates.count) in
    let points : length π.program ≤ 32 = omega (arith, i.script.program.most) in
    let templates = templates_bytes π.vocabulary π.templates i.script.templates.all in
    let program = program_bytes (length π.templates) (length π.program) count points π.program i.script.program.statements in
    let proposal = proposal_bytes_lem (length π.templates) (length π.program) count points j.proposal i.proposal.heads in
    both (u ++ v ++ w) (written_proposal j.proposal) (both (u ++ v) w (both u v (vocabulary_bytes π.vocabulary i.script.vocabulary) templates) program) proposal
