-- The transfer functions of the acts are the ways in which they make the values of variables, and the numbers of these are in range.
use Prim.Native.Nat.{ℕ, ◌≤◌, ◌<◌}
use native.Mathlib.Omega.{arith}
use mathlib.Core.Path.{◌≡◌, refl}
use mathlib.Core.List.{List}
use mathlib.Core.Bool.{Bool, true, false, cond}
use lib.Dec.{eqb}
use borrow.Author.Tests.{leb-true}
use Rattle.pages.specs.Items.{Items}
use Rattle.programs.specs.Program.{Act, copy_template, set_template, copy_string, set_string, any_string, plug, plug_string, show, show_framed}
use Rattle.programs.specs.ProgramReading.{act_templates_there}
use Rattle.programs.specs.Inner.Promises.{ActFits}
use Rattle.summaries.specs.Summaries.{Environment, transfer_template, transfer_string}
use Rattle.transfers.specs.declared.Made.{Made}
use Rattle.transfers.specs.declared.Made.TheVariants.{Value}
use Rattle.transfers.specs.declared.MadeString.{MadeString}
use Rattle.transfers.specs.declared.MadeString.TheVariants as MadeStrings
use Rattle.transfers.specs.Inner.Ways.{made_by, string_made_by, summary_made, strings_made, MadeFits, StringMadeFits, MadeThere}

module _ (φs : List Items) (E : Environment) where
  chosen : (b : Bool) (x : ℕ) (new : Made) → cond b (summary_made φs E new) (E.template x) ≡ summary_made φs E (cond b new (Value x))
  chosen true x new = refl
  chosen false x new = refl

  pub made_is : (a : Act) (x : ℕ) → transfer_template φs a E x ≡ summary_made φs E (made_by a x)
  made_is (copy_template y z) x = chosen (eqb x y) x _
  made_is (set_template y t) x = chosen (eqb x y) x _
  made_is (copy_string y z) x = refl
  made_is (set_string y s) x = refl
  made_is (any_string y) x = refl
  made_is (plug y z g w) x = chosen (eqb x y) x _
  made_is (plug_string y z h w) x = chosen (eqb x y) x _
  made_is (show y) x = refl
  made_is (show_framed y t g) x = refl

module _ (E : Environment) where
  string_chosen : (b : Bool) (y : ℕ) (new : MadeString) → cond b (strings_made E new) (E.string y) ≡ strings_made E (cond b new (MadeStrings.Value y))
  string_chosen true y new = refl
  string_chosen false y new = refl

  pub string_made_is : (a : Act) (y : ℕ) → transfer_string a E y ≡ strings_made E (string_made_by a y)
  string_made_is (copy_template x z) y = refl
  string_made_is (set_template x t) y = refl
  string_made_is (copy_string x z) y = string_chosen (eqb y x) y _
  string_made_is (set_string x s) y = string_chosen (eqb y x) y _
  string_made_is (any_string x) y = string_chosen (eqb y x) y _
  string_made_is (plug x z g w) y = refl
  string_made_is (plug_string x z h w) y = refl
  string_made_is (show x) y = refl
  string_made_is (show_framed x t g) y = refl

module _ (x : ℕ) (low : x < 4) where
  fits_chosen : (b : Bool) (new : Made) → MadeFits new → MadeFits (cond b new (Value x))
  fits_chosen true new f = f
  fits_chosen false new f = low

  pub made_fits : (count : ℕ) → count ≤ 31 → (a : Act) → ActFits a → act_templates_there count a ≡ true → MadeFits (made_by a x)
  made_fits count few (copy_template y z) f t = fits_chosen (eqb x y) _ f.1
  made_fits count few (set_template y k) f t = fits_chosen (eqb x y) _ (omega (arith, leb-true k count t))
  made_fits count few (copy_string y z) f t = low
  made_fits count few (set_string y s) f t = low
  made_fits count few (any_string y) f t = low
  made_fits count few (plug y z g w) f t = fits_chosen (eqb x y) _ (f.1, f.2, f.3)
  made_fits count few (plug_string y z h w) f t = fits_chosen (eqb x y) _ (f.1, f.2, f.3)
  made_fits count few (show y) f t = low
  made_fits count few (show_framed y k g) f t = low

module _ (y : ℕ) (low : y < 4) where
  string_fits_chosen : (b : Bool) (new : MadeString) → StringMadeFits new → StringMadeFits (cond b new (MadeStrings.Value y))
  string_fits_chosen true new f = f
  string_fits_chosen false new f = low

  pub string_made_fits : (a : Act) → ActFits a → StringMadeFits (string_made_by a y)
  string_made_fits (copy_template x z) f = low
  string_made_fits (set_template x t) f = low
  string_made_fits (copy_string x z) f = string_fits_chosen (eqb y x) _ f.1
  string_made_fits (set_string x s) f = string_fits_chosen (eqb y x) _ f.1
  string_made_fits (any_string x) f = string_fits_chosen (eqb y x) _ tt
  string_made_fits (plug x z g w) f = low
  string_made_fits (plug_string x z h w) f = low
  string_made_fits (show x) f = low
  string_made_fits (show_framed x t g) f = low

module _ (x count : ℕ) where
  there_chosen : (b : Bool) (new : Made) → MadeThere count new → MadeThere count (cond b new (Value x))
  there_chosen true new h = h
  there_chosen false new h = tt

  pub made_there : (a : Act) → act_templates_there count a ≡ true → MadeThere count (made_by a x)
  made_there (copy_template y z) t = there_chosen (eqb x y) _ tt
  made_there (set_template y k) t = there_chosen (eqb x y) _ (leb-true k count t)
  made_there (copy_string y z) t = tt
  made_there (set_string y s) t = tt
  made_there (any_string y) t = tt
  made_there (plug y z g w) t = there_chosen (eqb x y) _ tt
  made_there (plug_string y z h w) t = there_chosen (eqb x y) _ tt
  made_there (show y) t = tt
  made_there (show_framed y k g) t = tt
