-- What an act makes of a variable grows with the entries of the variables that it is made from alone.
use Prim.Native.Nat.{ℕ}
use mathlib.Core.Path.{◌≡◌}
use mathlib.Core.List.{List}
use mathlib.Core.Bool.{Bool, false}
use Rattle.sets.proofs.Booleans.{or_neither}
use Rattle.pages.specs.Items.{Items}
use Rattle.programs.specs.Program.{Act, Variable, template_variable, string_variable}
use Rattle.summaries.specs.Summaries.{Environment, Within, transfer}
use Rattle.summaries.specs.Covering.{WithinAt}
use Rattle.transfers.specs.declared.Made.{Made}
use Rattle.transfers.specs.declared.Made.TheVariants.{Value, Template, Plugged, Filled}
use Rattle.transfers.specs.declared.MadeString.{MadeString}
use Rattle.transfers.specs.declared.MadeString.TheVariants.{One, Any}
use Rattle.transfers.specs.declared.MadeString.TheVariants as Strings
use Rattle.transfers.specs.Inner.Ways.{made_by, string_made_by, summary_made, strings_made, sources, string_sources, act_sources, meets}
use Rattle.transfers.proofs.Transfers.{made_is, string_made_is}
use Rattle.least_entries.proofs.Monotone.{plug_grows, plug_string_grows}

module _ (φs : List Items) (E E' : Environment) where
  summary_from : (x : ℕ) (way : Made) → WithinAt (sources x way).0 E' E → WithinAt (sources x way).1 E' E → Within (summary_made φs E' way) (summary_made φs E way)
  summary_from x (Value z) f g = f
  summary_from x (Template t) f g = λ c e. e
  summary_from x (Plugged z h y) f g = plug_grows h (E'.template z) (E.template z) (E'.template y) (E.template y) f g
  summary_from x (Filled z h y) f g = plug_string_grows h (E'.template z) (E.template z) (E'.string y) (E.string y) f g

  strings_from : (y : ℕ) (way : MadeString) → WithinAt (string_sources y way).0 E' E → Within (strings_made E' way) (strings_made E way)
  strings_from y (Strings.Value z) f = f
  strings_from y (One s) f = λ t e. e
  strings_from y Any f = λ t e. e

  -- Where those that do not wait have not grown.
  module _ (waits : Variable → Bool) (same : (w : Variable) → waits w ≡ false → WithinAt w E' E) where
    pub transfer_from : (a : Act) (v : Variable) → meets waits (act_sources a v) ≡ false → WithinAt v (transfer φs a E') (transfer φs a E)
    transfer_from a (template_variable x) m =
        let n = or_neither (waits (sources x (made_by a x)).0) (waits (sources x (made_by a x)).1) m in
        rw (made_is φs E' a x, made_is φs E a x) (summary_from x (made_by a x) (same _ n.0) (same _ n.1))
    transfer_from a (string_variable y) m =
        let n = or_neither (waits (string_sources y (string_made_by a y)).0) (waits (string_sources y (string_made_by a y)).1) m in
        rw (string_made_is E' a y, string_made_is E a y) (strings_from y (string_made_by a y) (same _ n.0))
