-- Proposals as trees (document 01, "A job, command by command", Proposal).
use Rattle.std.specs.Prelude.{ℕ, List}
use Rattle.programs.specs.Program.{Variable}

-- What a summary of a template variable may hold: a root; an edge of a template's gap; a string at a template's attribute gap; that
-- an open gap, or an open attribute gap, may come from a template (source 000, sections 3 and 4).
pub data Claim : Type 0 where
  root : ℕ → Claim
  edge : ℕ → ℕ → ℕ → Claim
  string : ℕ → ℕ → ℕ → Claim
  gap_from : ℕ → ℕ → Claim
  attribute_gap_from : ℕ → ℕ → Claim

-- A holding, which document 01 calls an item of the proposal: a claim; any string at a template's attribute gap; one string, or any,
-- of a string variable.
pub data Holding : Type 0 where
  claim : Claim → Holding
  any_at : ℕ → ℕ → Holding
  one_string : ℕ → Holding
  any_string : Holding

-- `40 p v` and what stands under it: what is claimed of a variable at the entry of a point.
pub record Head : Type 0 where
  pub point : ℕ
  pub variable : Variable
  pub holdings : List Holding
