-- The variables that values are made from: of an act whose numbers are in range they are there.
use Prim.Native.Nat.{ℕ, ◌≤◌, ◌<◌}
use mathlib.Core.Path.{◌≡◌}
use mathlib.Core.Bool.{true}
use Rattle.programs.specs.Program.{Act, Variable, template_variable, string_variable}
use Rattle.programs.specs.ProgramReading.{act_templates_there}
use Rattle.programs.specs.Inner.Promises.{ActFits, IsVariable}
use Rattle.transfers.specs.declared.Made.{Made}
use Rattle.transfers.specs.declared.Made.TheVariants.{Value, Template, Plugged, Filled}
use Rattle.transfers.specs.declared.MadeString.{MadeString}
use Rattle.transfers.specs.declared.MadeString.TheVariants.{One, Any}
use Rattle.transfers.specs.declared.MadeString.TheVariants as Strings
use Rattle.transfers.specs.Inner.Ways.{made_by, string_made_by, MadeFits, StringMadeFits, sources, string_sources, act_sources}
use Rattle.transfers.proofs.Transfers.{made_fits, string_made_fits}

template_source : (x : ℕ) → x < 4 → (way : Made) → MadeFits way → IsVariable (sources x way).0
template_source x low (Value z) f = f
template_source x low (Template t) f = low
template_source x low (Plugged z g y) f = f.0
template_source x low (Filled z h y) f = f.0

string_source : (y : ℕ) → y < 4 → (way : MadeString) → StringMadeFits way → IsVariable (string_sources y way).0
string_source y low (Strings.Value z) f = f
string_source y low (One s) f = low
string_source y low Any f = low

pub source_there : (count : ℕ) → count ≤ 31 → (a : Act) → ActFits a → act_templates_there count a ≡ true → (v : Variable) → IsVariable v → IsVariable (act_sources a v).0
source_there count few a f t (template_variable x) low = template_source x low (made_by a x) (made_fits x low count few a f t)
source_there count few a f t (string_variable y) low = string_source y low (string_made_by a y) (string_made_fits y low a f)
