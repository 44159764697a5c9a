use mathlib.Core.Path.{refl}
use Rattle.languages.proofs.RoundLaws.{kept_by}
use Rattle.languages.proofs.keeps_set.Goals as goal

pub returns : goal.returns
returns c = kept_by _ _ _ c.common.ensures _ c.in-Some.is _ refl
