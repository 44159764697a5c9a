-- The statement of a point.
use Prim.Native.Nat.{ℕ, zero, suc, ◌≤◌}
use mathlib.Core.Path.{◌≡◌, refl, sym, ◌∙◌}
use mathlib.Core.List.{List, [], ◌∷◌, map}
use mathlib.Core.Bool.{Bool, true, false, cond, false≢true}
use mathlib.Core.Option.{Option, some, none}
use native.Mathlib.Omega.{arith}
use lib.ListN.{length, get_or, get_or-eq_default}
use Rattle.sets.proofs.Booleans.{or_left, or_right, neither, refuted}
use Rattle.programs.specs.Program.{Statement, stop, Variable, statement_at, statement_names, named}
use Rattle.programs.specs.ProgramReading.{Placed, points_there, strayed}

pub statement_element : (ts : List Statement) (p : ℕ) → statement_at ts p ≡ get_or ts p stop
unfolding statement_at
statement_element [] p = refl
statement_element (t ∷ ts) zero = refl
statement_element (t ∷ ts) (suc p) = statement_element ts p

pub past_stops : (ts : List Statement) (p : ℕ) → length ts ≤ p → statement_at ts p ≡ stop
past_stops ts p l = statement_element ts p ∙ get_or-eq_default ts stop l

-- What a statement of the program names, the program names.
pub names_of : (ts : List Statement) (p : ℕ) (v : Variable) → statement_names (statement_at ts p) v ≡ true → named ts v ≡ true
unfolding statement_at named
names_of [] p v e = absurd (false≢true e)
names_of (t ∷ ts) zero v e = or_left (statement_names t v) (named ts v) e
names_of (t ∷ ts) (suc p) v e = or_right (statement_names t v) (named ts v) (names_of ts p v e)

-- What the program does not name, no statement names, and the other way round.
pub names_none : (ts : List Statement) (v : Variable) → named ts v ≡ false → (p : ℕ) → statement_names (statement_at ts p) v ≡ false
names_none ts v o p = refuted (statement_names (statement_at ts p) v) (λ e. false≢true (sym o ∙ names_of ts p v e))

pub none_names : (ts : List Statement) (v : Variable) → ((p : ℕ) → statement_names (statement_at ts p) v ≡ false) → named ts v ≡ false
unfolding statement_at named
none_names [] v h = refl
none_names (t ∷ ts) v h = neither (statement_names t v) (named ts v) (h zero) (none_names ts v (λ p. h (suc p)))

unstrayed : (b : Bool) (rest : Option ℕ) (p : ℕ) → cond b rest (some p) ≡ none → (b ≡ true) × (rest ≡ none)
unstrayed true rest p e = (refl, e)
unstrayed false rest p e = absurd (let z : ◌≡◌ {A = ℕ} 0 1 = cc in omega arith)

-- Where no statement has a next point that is not there, all next points are there.
pub points_there_lem : (points : ℕ) (ts : List Placed) → strayed points ts ≡ none → (p : ℕ) → points_there points (statement_at (map (λ t. t.statement) ts) p) ≡ true
unfolding statement_at strayed
points_there_lem points [] e p = refl
points_there_lem points (t ∷ ts) e zero = (unstrayed (points_there points t.statement) (strayed points ts) t.at e).0
points_there_lem points (t ∷ ts) e (suc p) = points_there_lem points ts (unstrayed (points_there points t.statement) (strayed points ts) t.at e).1 p
