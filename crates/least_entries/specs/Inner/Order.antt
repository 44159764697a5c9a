-- The order of environments.
use Rattle.std.specs.Prelude.{ℕ, ◌≡◌}
use Rattle.programs.specs.Program.{Variable}
use Rattle.summaries.specs.Proposal.{Claim}
use Rattle.summaries.specs.Summaries.{Environment}
use Rattle.summaries.specs.Covering.{WithinAt}

-- At each variable the one's entry lies within the other's.
abbrev pub Below : Environment → Environment → Type 0
Below E F = (v : Variable) → WithinAt v E F

-- The two hold the same.
pub record Alike (E F : Environment) : Type 0 where
  pub template : (x : ℕ) (c : Claim) → E.template x c ≡ F.template x c
  pub string : (y s : ℕ) → E.string y s ≡ F.string y s
