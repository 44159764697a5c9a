-- The variables that a statement names, as a set.
use Prim.Native.Nat.{ℕ, ◌+◌, ◌<◌}
use mathlib.Core.Path.{◌≡◌, refl, sym, ap, ◌∙◌}
use mathlib.Core.Bool.{Bool, true, false, ◌||◌, or-false, or_assoc}
use native.Mathlib.Omega.{arith}
use lib.Dec.{eqb}
use borrow.Author.Tests.{eq-eqb, ne_eqb, eqb-true, eqb-false}
use Rattle.sets.specs.Sets.{member}
use Rattle.sets.proofs.Laws.{member_zero}
use Rattle.programs.specs.declared.Act.{Act}
use Rattle.programs.specs.declared.Statement.{Statement}
use Rattle.programs.specs.Program.{copy_template, set_template, copy_string, set_string, any_string, plug, plug_string, show, show_framed, stop, Variable, template_variable, string_variable, act_names, statement_names}
use Rattle.programs.specs.Inner.Promises.{as_act, as_statement, ActFits, StatementFits, number_of, IsVariable, is_template, is_string, Adds, Names}

same_shifted : (k y : ℕ) → eqb (4 + k) (4 + y) ≡ eqb k y
same_shifted k y = decided (eqb k y) refl
  where
    decided : (b : Bool) → eqb k y ≡ b → eqb (4 + k) (4 + y) ≡ eqb k y
    decided true e = eq-eqb _ _ (ap (4 +◌) (eqb-true k y e)) ∙ sym e
    decided false e = ne_eqb (4 + k) (4 + y) (λ q. eqb-false k y e (omega arith)) ∙ sym e

pub adds_template : (x set r : ℕ) → x < 4 → ((k : ℕ) → member r k ≡ (eqb k x || member set k)) → Adds (is_template x) set r
adds_template x set r l h = record { holds = adds }
  where
    adds : (v : Variable) → IsVariable v → member r (number_of v) ≡ (is_template x v || member set (number_of v))
    adds (template_variable k) t = h k
    adds (string_variable k) t = h (4 + k) ∙ rw (ne_eqb (4 + k) x (λ e. omega arith))

pub adds_string : (y set r : ℕ) → ((k : ℕ) → member r k ≡ (eqb k (4 + y) || member set k)) → Adds (is_string y) set r
adds_string y set r h = record { holds = adds }
  where
    adds : (v : Variable) → IsVariable v → member r (number_of v) ≡ (is_string y v || member set (number_of v))
    adds (template_variable k) t = h k ∙ rw (ne_eqb k (4 + y) (λ e. omega arith))
    adds (string_variable k) t = h (4 + k) ∙ rw (same_shifted k y)

-- One, two and three variables, added to the empty set.
module _ (names p : Variable → Bool) (r : ℕ) where
  pub names_1 : Adds p 0 r → ((v : Variable) → p v ≡ names v) → Names names r
  names_1 A e = record { holds = λ v t. (A.holds v t ∙ simp (member_zero, or-false)) ∙ e v }

  pub names_2 : (q : Variable → Bool) (r' : ℕ) → Adds p r' r → Adds q 0 r' → ((v : Variable) → (p v || q v) ≡ names v) → Names names r
  names_2 q r' A B e = record { holds = λ v t. (A.holds v t ∙ rw (B.holds v t) (simp (member_zero, or-false))) ∙ e v }

  pub names_3 : (q u : Variable → Bool) (r' r'' : ℕ) → Adds p r' r → Adds q r'' r' → Adds u 0 r'' → ((v : Variable) → (p v || q v || u v) ≡ names v) → Names names r
  names_3 q u r' r'' A B C e = record { holds = λ v t. (A.holds v t ∙ rw (B.holds v t, C.holds v t) (simp (member_zero, or-false, or_assoc))) ∙ e v }

-- The ranges of an act that is known.
pub fits_as : (act b : Act) → act ≡ b → ActFits (as_act act) → ActFits (as_act b)
fits_as act b e f = rw e at f

pub statement_fits_as : (t u : Statement) → t ≡ u → StatementFits (as_statement t) → StatementFits (as_statement u)
statement_fits_as t u e f = rw e at f

-- What each act names.
pub copy_names : (x y : ℕ) (v : Variable) → (is_template x v || is_template y v) ≡ act_names (copy_template x y) v
copy_names x y (template_variable k) = refl
copy_names x y (string_variable k) = refl

pub set_names : (x y : ℕ) (v : Variable) → is_template x v ≡ act_names (set_template x y) v
set_names x y (template_variable k) = refl
set_names x y (string_variable k) = refl

pub copy_string_names : (x y : ℕ) (v : Variable) → (is_string x v || is_string y v) ≡ act_names (copy_string x y) v
copy_string_names x y (template_variable k) = refl
copy_string_names x y (string_variable k) = refl

pub set_string_names : (x y : ℕ) (v : Variable) → is_string x v ≡ act_names (set_string x y) v
set_string_names x y (template_variable k) = refl
set_string_names x y (string_variable k) = refl

pub any_string_names : (x : ℕ) (v : Variable) → is_string x v ≡ act_names (any_string x) v
any_string_names x (template_variable k) = refl
any_string_names x (string_variable k) = refl

pub plug_names : (x y g z : ℕ) (v : Variable) → (is_template x v || is_template y v || is_template z v) ≡ act_names (plug x y g z) v
plug_names x y g z (template_variable k) = refl
plug_names x y g z (string_variable k) = refl

pub plug_string_names : (x y g z : ℕ) (v : Variable) → (is_template x v || is_template y v || is_string z v) ≡ act_names (plug_string x y g z) v
plug_string_names x y g z (template_variable k) = rw or-false
plug_string_names x y g z (string_variable k) = refl

pub show_names : (x : ℕ) (v : Variable) → is_template x v ≡ act_names (show x) v
show_names x (template_variable k) = refl
show_names x (string_variable k) = refl

pub show_framed_names : (x t g : ℕ) (v : Variable) → is_template x v ≡ act_names (show_framed x t g) v
show_framed_names x t g (template_variable k) = refl
show_framed_names x t g (string_variable k) = refl

pub no_names : Names (statement_names stop) 0
no_names = record { holds = none }
  where
    none : (v : Variable) → IsVariable v → member 0 (number_of v) ≡ statement_names stop v
    none (template_variable k) h = member_zero k
    none (string_variable k) h = member_zero (4 + k)
