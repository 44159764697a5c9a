-- Proposals written out as bytes (document 01, "A job, command by command", Proposal).
use Rattle.std.specs.Prelude.{ℕ, ◌+◌, List, [], ◌∷◌, ◌++◌}
use Rattle.programs.specs.Program.{Variable, template_variable, string_variable}
use Rattle.summaries.specs.Proposal.{Claim, root, edge, gap_from, attribute_gap_from, Holding, claim, any_at, one_string, Head}

-- An item of the proposal.
abbrev pub written_holding : Holding → List ℕ
written_holding (claim (root t)) = 0x41 ∷ t ∷ []
written_holding (claim (edge n g t)) = 0x42 ∷ n ∷ g ∷ t ∷ []
written_holding (claim (Claim.string n h s)) = 0x43 ∷ n ∷ h ∷ s ∷ []
written_holding (any_at n h) = 0x44 ∷ n ∷ h ∷ []
written_holding (claim (gap_from g n)) = 0x45 ∷ g ∷ n ∷ []
written_holding (claim (attribute_gap_from h n)) = 0x46 ∷ h ∷ n ∷ []
written_holding (one_string s) = 0x47 ∷ s ∷ []
written_holding Holding.any_string = 0x48 ∷ []

unfoldable pub written_holdings : List Holding → List ℕ
written_holdings [] = []
written_holdings (h ∷ hs) = written_holding h ++ written_holdings hs

-- The v of `40 p v`.
abbrev pub written_variable : Variable → ℕ
written_variable (template_variable x) = x
written_variable (string_variable y) = 4 + y

unfoldable pub written_head : Head → List ℕ
unfolding written_holdings
written_head h = 0x40 ∷ h.point ∷ written_variable h.variable ∷ written_holdings h.holdings

-- The heads, then `4F`.
unfoldable pub written_proposal : List Head → List ℕ
unfolding written_head
written_proposal [] = 0x4F ∷ []
written_proposal (h ∷ hs) = written_head h ++ written_proposal hs
