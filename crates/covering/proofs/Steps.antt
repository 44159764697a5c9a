-- What the code compares at a point is what the act's transfer function gives the variable, by the way in which it does.
use Prim.Native.Nat.{ℕ, ◌+◌, ◌*◌, ◌-◌, ◌%◌, ◌≤◌, ◌<◌}
use mathlib.Core.Path.{◌≡◌, sym, subst, ◌∙◌}
use mathlib.Core.List.{List}
use mathlib.Core.Bool.{Bool, true, not, false, false≢true}
use native.Mathlib.Omega.{arith}
use lib.ListN.{length, get_or}
use lib.Dec.{eqb}
use borrow.Author.Tests.{lt-ltb, le-ltb, not-true, not-false}
use Rattle.commands.specs.declared.Context.TheVariants.{TemplateHoldings, StringHoldings}
use Rattle.pages.specs.Items.{Items}
use Rattle.pages.specs.Inner.Gaps.{GapsAre}
use Rattle.programs.specs.Program.{Act, template_variable, string_variable, template_at}
use Rattle.summaries.specs.Proposal.{Head, Holding}
use Rattle.summaries.specs.ProposalReading.{variable_of}
use Rattle.summaries.specs.Summaries.{Summary, Strings, Environment, Within, fragment, plug_summary, plug_string_summary, transfer, transfer_template, transfer_string, says_claim, says_string, held, under, entries}
use Rattle.summaries.specs.Inner.Listed.{Listed}
use Rattle.summaries.specs.Covering.{WithinAt}
use Rattle.jobs.specs.Job.{Job}
use Rattle.strings.specs.declared.Values.{Values}
use Rattle.strings.specs.Inner.Promises.{holds_value, ValuesWithin}
use Rattle.transfers.specs.declared.Made.{Made}
use Rattle.transfers.specs.declared.Made.TheVariants.{Value, Template, Plugged, Filled}
use Rattle.transfers.specs.declared.MadeString.{MadeString}
use Rattle.transfers.specs.declared.MadeString.TheVariants.{One, Any}
use Rattle.transfers.specs.declared.MadeString.TheVariants as MadeStrings
use Rattle.transfers.specs.Inner.Ways.{made_by, string_made_by, summary_made, strings_made, MadeFits, StringMadeFits, MadeThere}
use Rattle.transfers.proofs.Transfers.{made_is, string_made_is, made_fits, string_made_fits, made_there}
use Rattle.entries.specs.Inner.Passing.{Decides}
use Rattle.entries.proofs.Tests.{decides_map, values_decide}
use Rattle.covering.specs.Inner.Tables.{EntriesAt, PointAt}

-- The entry of a variable at a point, by the offset that the code takes from the table.
module _ (s heads : List ℕ) (hs : List Head) (p : ℕ) (low : p < 32) (entry : EntriesAt s heads hs p) where
  pub template_listed : (x from : ℕ) → x < 4 → (p < 32 → x < 4 → from ≡ get_or heads (p * 8 + x) 0) → Listed TemplateHoldings s from (under hs p (template_variable x))
  template_listed x from f is = rw (is low f) (entry.template x f)

  pub string_listed : (y from : ℕ) → y < 4 → (p < 32 → y < 4 → from ≡ get_or heads (p * 8 + (4 + y)) 0) → Listed StringHoldings s from (under hs p (string_variable y))
  string_listed y from f is = rw (is low f) (entry.string y f)

module _ (j : Job) (s gaps heads : List ℕ) (p : ℕ) (a : Act) (P : PointAt j s gaps heads p a) where
  abbrev φs : List Items
  φs = j.script.templates

  abbrev E : Environment
  E = entries j.proposal p

  -- A template variable, by the way in which the act makes its value.
  module _ (x : ℕ) (low : x < 4) (R : Summary) (r : Bool) (made : Made) (is : made ≡ made_by a x) where
    fits : (w : Made) → made ≡ w → MadeFits w
    fits w e = subst MadeFits (sym is ∙ e) (made_fits x low (length φs) P.few a P.fits P.template_there)

    by_way : (w : Made) → made ≡ w → Decides r (Within (summary_made φs E w) R) → Decides r (Within (transfer_template φs a E x) R)
    by_way w e d = rw (made_is φs E a x, ← is, e) d

    pub value_decides : (y : ℕ) → made ≡ Value y → (from : ℕ) → (p < 32 → y < 4 → from ≡ get_or heads (p * 8 + y) 0)
        → ((xs : List Holding) → Listed TemplateHoldings s from xs → Decides r (Within (held says_claim xs) R)) → Decides r (Within (transfer_template φs a E x) R)
    unfolding entries
    value_decides y e from from_is h =
        by_way (Value y) e (h (under j.proposal p (template_variable y)) (template_listed s heads j.proposal p P.low P.entry y from (fits (Value y) e) from_is))

    pub fragment_decides : (t : ℕ) → made ≡ Template t → ((φ : Items) → GapsAre (get_or gaps (t % 32) 0) φ → Decides r (Within (fragment t φ) R)) → Decides r (Within (transfer_template φs a E x) R)
    fragment_decides t e h =
        let l = fits (Template t) e in
        let w : t % 32 ≡ t = omega arith in
        let there : t ≤ length φs = subst (MadeThere (length φs)) (sym is ∙ e) (made_there x (length φs) a P.template_there) in
        by_way (Template t) e (h (template_at φs t) (rw w (P.gaps_are t there)))

    pub plugged_decides : (y g z : ℕ) → made ≡ Plugged y g z → (from other : ℕ) → (p < 32 → y < 4 → from ≡ get_or heads (p * 8 + y) 0) → (p < 32 → z < 4 → other ≡ get_or heads (p * 8 + z) 0)
        → ((xs ys : List Holding) → Listed TemplateHoldings s from xs → Listed TemplateHoldings s other ys → Decides r (Within (plug_summary g (held says_claim xs) (held says_claim ys)) R))
        → Decides r (Within (transfer_template φs a E x) R)
    unfolding entries
    plugged_decides y g z e from other from_is other_is h =
        let f = fits (Plugged y g z) e in
        by_way (Plugged y g z) e
        (h (under j.proposal p (template_variable y)) (under j.proposal p (template_variable z))
        (template_listed s heads j.proposal p P.low P.entry y from f.0 from_is)
        (template_listed s heads j.proposal p P.low P.entry z other f.2 other_is))

    pub filled_decides : (y h z : ℕ) → made ≡ Filled y h z → (from other : ℕ) → (p < 32 → y < 4 → from ≡ get_or heads (p * 8 + y) 0) → (p < 32 → z < 4 → other ≡ get_or heads (p * 8 + (4 + z)) 0)
        → (values : Values) → ((ys : List Holding) → Listed StringHoldings s other ys → (t : ℕ) → held says_string ys t ≡ holds_value values t)
        → ((xs : List Holding) (Y : Strings) → Listed TemplateHoldings s from xs → ((t : ℕ) → Y t ≡ holds_value values t) → Decides r (Within (plug_string_summary h (held says_claim xs) Y) R))
        → Decides r (Within (transfer_template φs a E x) R)
    unfolding entries
    filled_decides y h z e from other from_is other_is values are k =
        let f = fits (Filled y h z) e in
        by_way (Filled y h z) e
        (k (under j.proposal p (template_variable y)) (held says_string (under j.proposal p (string_variable z)))
        (template_listed s heads j.proposal p P.low P.entry y from f.0 from_is)
        (are (under j.proposal p (string_variable z)) (string_listed s heads j.proposal p P.low P.entry z other f.2 other_is)))

  -- A string variable, likewise.
  module _ (y : ℕ) (low : y < 4) (R : Strings) (r : Bool) (made : MadeString) (is : made ≡ string_made_by a y) where
    string_fits : (w : MadeString) → made ≡ w → StringMadeFits w
    string_fits w e = subst StringMadeFits (sym is ∙ e) (string_made_fits y low a P.fits)

    by_string_way : (w : MadeString) → made ≡ w → Decides r (Within (strings_made E w) R) → Decides r (Within (transfer_string a E y) R)
    by_string_way w e d = rw (string_made_is E a y, ← is, e) d

    pub string_value_decides : (z : ℕ) → made ≡ MadeStrings.Value z → (from : ℕ) → (p < 32 → z < 4 → from ≡ get_or heads (p * 8 + (4 + z)) 0)
        → ((xs : List Holding) → Listed StringHoldings s from xs → Decides r (Within (held says_string xs) R)) → Decides r (Within (transfer_string a E y) R)
    unfolding entries
    string_value_decides z e from from_is h =
        by_string_way (MadeStrings.Value z) e
        (h (under j.proposal p (string_variable z)) (string_listed s heads j.proposal p P.low P.entry z from (string_fits (MadeStrings.Value z) e) from_is))

    module _ (given there : Values) (within : ValuesWithin given there r) (R_is : (t : ℕ) → R t ≡ holds_value there t) where
      pub one_decides : (b : ℕ) → made ≡ One b → ((t : ℕ) → holds_value given t ≡ eqb t (b % 64)) → Decides r (Within (transfer_string a E y) R)
      one_decides b e h =
          let l : b < 64 = string_fits (One b) e in
          let m : b % 64 ≡ b = omega arith in
          by_string_way (One b) e (values_decide (λ t. eqb t b) R given there (λ t. sym (h t ∙ rw m)) R_is r within)

      pub any_decides : made ≡ Any → ((t : ℕ) → holds_value given t ≡ true) → Decides r (Within (transfer_string a E y) R)
      any_decides e h = by_string_way Any e (values_decide (λ t. true) R given there (λ t. sym (h t)) R_is r within)

-- Variables as `40` numbers them.
module _ (φs : List Items) (a : Act) (E F : Environment) (v : ℕ) (r : Bool) where
  pub variable_template : v < 4 → Decides r (Within (transfer_template φs a E v) (F.template v)) → Decides r (WithinAt (variable_of v) (transfer φs a E) F)
  variable_template f d = rw (lt-ltb v 4 f) d

  pub variable_string : 4 ≤ v → Decides r (Within (transfer_string a E (v - 4)) (F.string (v - 4))) → Decides r (WithinAt (variable_of v) (transfer φs a E) F)
  variable_string f d = rw (le-ltb v 4 f) d

-- Variables that no statement names are covered.
module _ (named_here r : Bool) (W : Type 0) where
  pub not_named : (b : Bool) → b ≡ named_here → not b ≡ true → named_here ≡ true → W
  not_named b e n h = absurd (false≢true (sym (not-true b n) ∙ (e ∙ h)))

  pub named_decides : (b : Bool) → b ≡ named_here → not b ≡ false → Decides r W → Decides r (named_here ≡ true → W)
  named_decides b e n d = decides_map r (λ w h. w) (λ h. h (sym e ∙ not-false b n)) d
