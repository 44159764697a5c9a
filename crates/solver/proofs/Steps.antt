-- What a variable gets over a step is what the act makes of it.
use Prim.Native.Nat.{ℕ, ◌%◌, ◌<◌}
use native.Mathlib.Omega.{arith}
use mathlib.Core.Path.{◌≡◌, sym, ap, ◌∙◌}
use mathlib.Core.List.{List}
use mathlib.Core.Bool.{Bool}
use lib.ListN.{length}
use Rattle.strings.specs.declared.Values.{Values}
use Rattle.strings.specs.Inner.Promises.{holds_value}
use Rattle.pages.specs.Items.{Items}
use Rattle.pages.specs.Inner.Gaps.{GapsTable}
use Rattle.programs.specs.Program.{Act, template_variable, string_variable}
use Rattle.summaries.specs.Summaries.{transfer}
use Rattle.transfers.specs.declared.Made.{Made}
use Rattle.transfers.specs.declared.Made.TheVariants.{Value}
use Rattle.transfers.specs.declared.MadeString.{MadeString}
use Rattle.transfers.specs.Inner.Ways.{made_by, string_made_by, summary_made, strings_made, MadeFits, StringMadeFits, MadeThere}
use Rattle.transfers.proofs.Transfers.{made_is, string_made_is, made_fits, string_made_fits, made_there}
use Rattle.graphs.specs.Inner.Graphs.{Keeps}
use Rattle.states.specs.Inner.States.{graph_words, entries_in}
use Rattle.states.specs.Inner.Promises.{GraphJoined, ValuesJoined}
use Rattle.states.proofs.Entries.{template_entry}
use Rattle.solver.specs.Inner.Work.{VariableFlows}
use Rattle.solver.proofs.Entering.{graph_said, template_entered, string_entered}

module _ (before gaps : List ℕ) (a : Act) (p next x : ℕ) (low : x < 4) (after : List ℕ) (changed : Bool) where
  -- The value that a template variable had.
  pub value_flows : (way : Made) → way ≡ made_by a x → (z : ℕ) → way ≡ Value z → GraphJoined before next x (graph_words before p (z % 4)) after changed → VariableFlows before gaps a p next (template_variable x) after changed
  value_flows way is z e J = record {
    entered = λ φs points S w.
        let E = entries_in points before p in
        let by : made_by a x ≡ Value z = sym is ∙ e in
        let few : z < 4 = rw by at (made_fits x low (length φs) S.few a S.fits S.template_there) in
        let same : z % 4 ≡ z = omega arith in
        template_entered points before next S.next_low after changed (transfer φs a E) x (graph_words before p (z % 4))
        (λ c. rw (made_is φs E a x, by, same) (sym (template_entry points before p z S.point_low few c))) J;
    grows = J.grows;
  }

  pub template_flows : (way : Made) (made : List ℕ) → way ≡ made_by a x
      → ((φs : List Items) (points : ℕ) → p < points → GapsTable gaps φs → MadeFits way → MadeThere (length φs) way → Keeps made (summary_made φs (entries_in points before p) way))
      → GraphJoined before next x made after changed → VariableFlows before gaps a p next (template_variable x) after changed
  template_flows way made is makes J = record {
    entered = λ φs points S w.
        let E = entries_in points before p in
        let fits : MadeFits way = rw is (made_fits x low (length φs) S.few a S.fits S.template_there) in
        let there : MadeThere (length φs) way = rw is (made_there x (length φs) a S.template_there) in
        let by_way : Keeps made (summary_made φs E way) = makes φs points S.point_low S.gaps_are fits there in
        let by_act : Keeps made (summary_made φs E (made_by a x)) = rw is at by_way in
        template_entered points before next S.next_low after changed (transfer φs a E) x made (graph_said made ((transfer φs a E).template x) (rw (made_is φs E a x) by_act) w) J;
    grows = J.grows;
  }

  pub string_flows : (way : MadeString) (made : Values) → way ≡ string_made_by a x
      → ((points : ℕ) → p < points → StringMadeFits way → (t : ℕ) → holds_value made t ≡ strings_made (entries_in points before p) way t)
      → ValuesJoined before next x made after changed → VariableFlows before gaps a p next (string_variable x) after changed
  string_flows way made is makes J = record {
    entered = λ φs points S w.
        string_entered points before next S.next_low after changed (transfer φs a (entries_in points before p)) x made
        (λ s. rw is at (makes points S.point_low (rw is (string_made_fits x low a S.fits)) s) ∙ sym (ap (λ (Y : ℕ → Bool). Y s) (string_made_is (entries_in points before p) a x))) J;
    grows = J.grows;
  }
