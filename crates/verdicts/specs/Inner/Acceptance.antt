-- Acceptance (document 01, "Verdicts"): a verdict is acceptance, or a refusal.
use Rattle.std.specs.Prelude.{Bool, true, false}
use Rattle.verdicts.specs.declared.Verdict.{Verdict}
use Rattle.verdicts.specs.declared.Verdict.TheVariants.{Accepted, Refused}

abbrev pub accepts : Verdict → Bool
accepts Accepted = true
accepts (Refused r) = false
