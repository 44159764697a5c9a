-- Entries that a proposal can say.
use Rattle.std.specs.Prelude.{ℕ, ◌≤◌, ◌<◌, ◌≡◌, Bool, true, false, ◌&&◌, ltb}
use Rattle.commands.specs.Commands.{strings}
use Rattle.programs.specs.Program.{Variable, template_variable, string_variable}
use Rattle.summaries.specs.Proposal.{Claim, root, edge, string, gap_from, attribute_gap_from}
use Rattle.summaries.specs.ProposalReading.{claim_there}
use Rattle.summaries.specs.Summaries.{Summary, Strings, Environment}
use Rattle.summaries.specs.ProposalOf.{unlisted}

-- Strings that are not named are held all or none, and with them every string.
pub record PlainStrings (Y : Strings) : Type 0 where
  pub one : (s : ℕ) → strings ≤ s → Y s ≡ true → Y unlisted ≡ true
  pub every : Y unlisted ≡ true → (s : ℕ) → Y s ≡ true

abbrev pub PlainSummary : Summary → Type 0
PlainSummary S = (n h : ℕ) → PlainStrings (λ s. S (string n h s))

pub record Plain (E : ℕ → Environment) : Type 0 where
  pub template : (p x : ℕ) → PlainSummary ((E p).template x)
  pub string : (p y : ℕ) → PlainStrings ((E p).string y)

-- Gaps are 0 to 7.
abbrev pub gap_low : Claim → Bool
gap_low (root t) = true
gap_low (edge n g t) = ltb g 8
gap_low (string n h s) = ltb h 8
gap_low (gap_from g n) = ltb g 8
gap_low (attribute_gap_from h n) = ltb h 8

-- The templates and gaps of a claim are there; `count` templates are, besides template 0.
abbrev pub claim_fits : ℕ → Claim → Bool
claim_fits count c = claim_there count c && gap_low c

-- Entries hold only what is there: at points below `points`, of variables 0 to 3, with templates and gaps that are there.
pub record OnlyThere (count points : ℕ) (E : ℕ → Environment) : Type 0 where
  pub template : (p x : ℕ) (c : Claim) → (E p).template x c ≡ true → (p < points) × (x < 4) × (claim_fits count c ≡ true)
  pub string : (p y s : ℕ) → (E p).string y s ≡ true → (p < points) × (y < 4)

-- Nothing is held of a variable.
abbrev pub HoldsNothing : Variable → Environment → Type 0
HoldsNothing (template_variable x) E = (c : Claim) → E.template x c ≡ false
HoldsNothing (string_variable y) E = (s : ℕ) → E.string y s ≡ false
