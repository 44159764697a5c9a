-- What reading the statements from a point on gives, from what is read at that point.
use Prim.Native.Nat.{ℕ, zero, suc, ◌+◌, ◌-◌, ◌≤◌, ◌<◌}
use mathlib.Core.Path.{◌≡◌, refl, sym, ap, ◌∙◌}
use mathlib.Core.List.{List, [], ◌∷◌}
use mathlib.Core.Bool.{Bool, true, false, cond, ◌||◌, or-false, or_assoc}
use native.Mathlib.Omega.{arith}
use lib.ListN.{length, get_or, set}
use lib.Seq.{slice, slice_empty, get_or-set_same}
use lib.Dec.{eqb, ltb}
use borrow.Author.Tests.{eq-eqb, ne_eqb, eqb-true, eqb-false, ltb-true}
use Rattle.std.specs.Prelude.{Result, Ok, Err}
use Rattle.verdicts.specs.declared.Form.{Form}
use Rattle.verdicts.specs.declared.Form.TheVariants.{TooMany, Missing}
use Rattle.sets.specs.Sets.{member}
use Rattle.commands.specs.declared.Position.{Position}
use Rattle.commands.specs.declared.ReadError.{ReadError}
use Rattle.commands.specs.declared.Decoded.{Decoded}
use Rattle.commands.specs.declared.Decoded.TheVariants.{Moved, Refused}
use Rattle.commands.specs.Commands.{command}
use Rattle.commands.specs.Reading.{Read, whole, refused, unfinished, and_then, on_decoded, when}
use Rattle.commands.proofs.Laws.{MovedOver, moved, refused_with}
use Rattle.commands.specs.Inner.Parts.{part_of, AgreesWith}
use Rattle.programs.specs.declared.Points.{Points}
use Rattle.programs.specs.declared.Statement as Declared
use Rattle.programs.specs.Program.{statement_names, named}
use Rattle.programs.specs.ProgramReading.{Placed, statement_read, templates_there, most_points, statement_context, statements}
use Rattle.programs.proofs.Agreement.{enough_after, fewer_left, Stay, stay_below}
use Rattle.programs.proofs.Statements.{next_place}
use Rattle.programs.proofs.Decoding.{statement_fits}
use Rattle.programs.specs.Inner.Promises.{as_statement, statement_here, StatementFits, tested_here, tested_statement, number_of, Names, placed_at, placed, Stands, Kept, StatementsRead}

never_ends : {A : Type 0} (f : Form) (n code : ℕ) (next : Position) → Refused f n ≡ Moved code next → A
never_ends f n code next e = absurd (let z : ◌≡◌ {A = ℕ} 0 1 = cc in omega arith)

-- Where the points are read, the places that were kept before stay.
abbrev pub PlacesStay : ℕ → List ℕ → Result (Points × Position) ReadError → Type 0
PlacesStay n places (Ok (points, p)) = Stay n places points.places
PlacesStay n places (Err e) = Unit {0}

pub places_stay_below : (n k a : ℕ) (places : List ℕ) (r : Result (Points × Position) ReadError) → n ≤ k → PlacesStay (k + 1) (set places k a) r → PlacesStay n places r
places_stay_below n k a places (Ok (points, p)) l st = stay_below n k a places points.places l st
places_stay_below n k a places (Err e) l st = tt

agrees_where_stay : {A B : Type 0} (n : ℕ) (places : List ℕ) (P : A → Points → Type 0) (Q : B → Points → Type 0) (g : A → B) (x : Read A) (r : Result (Points × Position) ReadError)
    → ((a : A) (points : Points) → Stay n places points.places → P a points → Q (g a) points) → PlacesStay n places r
    → AgreesWith P x r → AgreesWith Q (and_then x λ a end. whole (g a) end) r
agrees_where_stay n places P Q g (whole a end) (Ok (points, p)) says st h = (h.0, says a points st h.1)
agrees_where_stay n places P Q g (whole a end) (Err e) says st h = h
agrees_where_stay n places P Q g (refused f at) (Ok (points, p)) says st h = h
agrees_where_stay n places P Q g (refused f at) (Err e) says st h = h
agrees_where_stay n places P Q g unfinished r says st h = h

-- What it tells that a statement may stand here.
pub record MayStand (count : ℕ) (s : List ℕ) (before at code : ℕ) (next : Position) : Type 0 where
  pub read : command (statement_context before) s at ≡ Moved code next
  pub template_there : templates_there count (statement_read s at code) ≡ true
  pub few : before < most_points

module _ (count : ℕ) (s : List ℕ) (before at : ℕ) where
  -- The reading goes by what is read here.
  abbrev on_here : ℕ → Decoded → Read (List Placed)
  on_here f d = on_decoded d λ code next. when (eqb code 0x3F)
      (λ _. whole [] next)
      (λ _. and_then (statements f count s (before + 1) next) λ ts end. whole (record { at = at; statement = statement_read s at code } ∷ ts) end)

  by_tests : (f code : ℕ) (next : Position) (b₁ b₂ b₃ : Bool)
      → eqb code 0x3F ≡ b₁ → templates_there count (statement_read s at code) ≡ b₂ → ltb before most_points ≡ b₃
      → when b₁
      (λ _. whole [] next.at)
      (λ _. when b₂
      (λ _. when b₃
      (λ _. and_then (statements f count s (before + 1) next.at) λ ts end. whole (record { at = at; statement = statement_read s at code } ∷ ts) end)
      (λ _. refused TooMany at))
      (λ _. refused Missing at))
      ≡ on_here f (cond b₁ (Moved code next) (cond b₂ (cond b₃ (Moved code next) (Refused TooMany at)) (Refused Missing at)))
  by_tests f code next true b₂ b₃ e₁ e₂ e₃ = rw e₁
  by_tests f code next false true true e₁ e₂ e₃ = rw e₁
  by_tests f code next false true false e₁ e₂ e₃ = refl
  by_tests f code next false false b₃ e₁ e₂ e₃ = refl

  reads_here : (f : ℕ) → statements (suc f) count s before at ≡ on_here f (tested_statement count s before at)
  unfolding statements
  reads_here f = by_decoded (command (statement_context before) s at)
    where
      by_decoded : (d : Decoded) → on_decoded d (λ code next. when (eqb code 0x3F)
          (λ _. whole [] next)
          (λ _. when (templates_there count (statement_read s at code))
          (λ _. when (ltb before most_points)
          (λ _. and_then (statements f count s (before + 1) next) λ ts end. whole (record { at = at; statement = statement_read s at code } ∷ ts) end)
          (λ _. refused TooMany at))
          (λ _. refused Missing at))) ≡ on_here f (tested_here count s before at d)
      by_decoded (Moved code next) = by_tests f code next (eqb code 0x3F) (templates_there count (statement_read s at code)) (ltb before most_points) refl refl refl
      by_decoded (Refused form n) = refl

  stands_by_tests : (code code' : ℕ) (next next' : Position) (b₁ b₂ b₃ : Bool)
      → eqb code 0x3F ≡ b₁ → templates_there count (statement_read s at code) ≡ b₂ → ltb before most_points ≡ b₃
      → cond b₁ (Moved code next) (cond b₂ (cond b₃ (Moved code next) (Refused TooMany at)) (Refused Missing at)) ≡ Moved code' next'
      → (code' ≡ 0x3F → ⊥) → command (statement_context before) s at ≡ Moved code next
      → MayStand count s before at code' next'
  stands_by_tests code code' next next' true b₂ b₃ e₁ e₂ e₃ e on r =
      let q : code ≡ code' = cc in absurd (on (sym q ∙ eqb-true code 0x3F e₁))
  stands_by_tests code code' next next' false true true e₁ e₂ e₃ e on r =
      let q : code ≡ code' = cc in record { read = r ∙ e; template_there = rw q at e₂; few = ltb-true _ _ e₃ }
  stands_by_tests code code' next next' false true false e₁ e₂ e₃ e on r = never_ends _ _ _ _ e
  stands_by_tests code code' next next' false false b₃ e₁ e₂ e₃ e on r = never_ends _ _ _ _ e

  pub may_stand : (d : Decoded) (code : ℕ) (next : Position) → d ≡ tested_statement count s before at → d ≡ Moved code next → (code ≡ 0x3F → ⊥) → MayStand count s before at code next
  may_stand d code next d_is e on = by_decoded (command (statement_context before) s at) refl (sym d_is ∙ e)
    where
      by_decoded : (d : Decoded) → command (statement_context before) s at ≡ d → tested_here count s before at d ≡ Moved code next → MayStand count s before at code next
      by_decoded (Moved code' next') r q =
          stands_by_tests code' code next' next (eqb code' 0x3F) (templates_there count (statement_read s at code')) (ltb before most_points) refl refl refl q on r
      by_decoded (Refused form n) r q = never_ends form n code next q

  -- A refusal here is the answer.
  pub refused_here : (now : ℕ) (d : Decoded) (e : ReadError) → d ≡ tested_statement count s before at → part_of d ≡ Err e → StatementsRead s count before now at (Err e)
  refused_here now d e d_is p zero h = absurd (omega arith)
  refused_here now d e d_is p (suc f) h = rw (reads_here f, ← d_is, refused_with d e p) (refl, refl)

  -- `3F` ends the statements.
  pub ends_here : (now : ℕ) (d : Decoded) (code : ℕ) (next : Position) (places : List ℕ) → d ≡ tested_statement count s before at → d ≡ Moved code next → code ≡ 0x3F
      → length places ≡ most_points → before ≤ most_points
      → StatementsRead s count before now at (Ok (record { count = before; places = places; named = now }, next))
  unfolding named
  ends_here now d code next places d_is d_moves e w m zero h = absurd (omega arith)
  ends_here now d code next places d_is d_moves e w m (suc f) h = rw (reads_here f, ← d_is, d_moves, eq-eqb code 0x3F e) (
    refl,
    record {
      least = omega arith;
      most = m;
      wide = w;
      are = rw slice_empty;
      stands = λ i l l'. absurd (omega arith);
      names = record { holds = λ v t. sym (or-false _) };
    },
  )

-- A statement here stands before those that follow.
module _ (count : ℕ) (s : List ℕ) (before at : ℕ) (d : Decoded) (d_is : d ≡ tested_statement count s before at) (code : ℕ) (next : Position) (d_moves : d ≡ Moved code next) (on : code ≡ 0x3F → ⊥) where
  m : MayStand count s before at code next
  m = may_stand count s before at d code next d_is d_moves on

  pub few_before : before < most_points
  few_before = m.few

  pub fewer_left_here : length s - next.at < length s - at
  fewer_left_here = fewer_left (statement_context before) s at code next m.read

  over : MovedOver (statement_context before) s at code next
  over = moved (statement_context before) s at code next m.read

  stands : Stands s count at
  stands = record {
    inside = let i = over.inside in let a = over.after in omega arith;
    ranges = over.ranges;
    template_there = rw over.first at m.template_there;
  }

  pub is_in_range : (t : Declared.Statement) → as_statement t ≡ statement_here s at → StatementFits (as_statement t)
  is_in_range t e = rw e (statement_fits s at over.ranges)

  module _ (now new now' : ℕ) (places : List ℕ) (r : Points) (t : Declared.Statement) (t_is : as_statement t ≡ statement_here s at)
      (names_here : Names (statement_names (as_statement t)) new) (joined : (k : ℕ) → member now' k ≡ (member now k || member new k))
      (w : length places ≡ most_points) (stay : Stay (before + 1) (set places before at) r.places) where
    is_here : get_or r.places before 0 ≡ at
    is_here = stay.same before (omega arith) ∙ get_or-set_same places before at 0 (let l = m.few in omega arith)

    abbrev made : ℕ → Placed
    made c = record { at = at; statement = statement_read s at c }

    made_is : made code ≡ placed_at s (get_or r.places before 0)
    made_is = ap made over.first ∙ ap (placed_at s) (sym is_here)

    stands_from : ((i : ℕ) → before + 1 ≤ i → i < r.count → Stands s count (get_or r.places i 0)) → (i : ℕ) → before ≤ i → i < r.count → Stands s count (get_or r.places i 0)
    stands_from later i l l' = by_test (eqb i before) refl
      where
        by_test : (b : Bool) → eqb i before ≡ b → Stands s count (get_or r.places i 0)
        by_test true e = rw (eqb-true i before e, is_here) stands
        by_test false e = later i (let n = eqb-false i before e in omega arith) l'

    kept_here : (ts : List Placed) → Kept s count (before + 1) now' r ts → Kept s count before now r (made code ∷ ts)
    unfolding named
    kept_here ts K = record {
      least = let l = K.least in omega arith;
      most = K.most;
      wide = K.wide;
      are =
          (ap (λ (l : List Placed). made code ∷ l) K.are ∙ ap (λ (p : Placed). p ∷ placed s (slice (before + 1) r.count r.places)) made_is)
          ∙ sym (ap (placed s) (next_place r.places r.count before (let l = K.least in omega arith) (let l = K.most in let l' = K.wide in omega arith)));
      stands = stands_from K.stands;
      names = record { holds = λ v l. K.names.holds v l ∙ rw (joined (number_of v), names_here.holds v l, t_is, ← over.first) (or_assoc (member now (number_of v)) _ _) };
    }

  pub goes_on : (now new now' : ℕ) (places : List ℕ) (t : Declared.Statement) → as_statement t ≡ statement_here s at → Names (statement_names (as_statement t)) new
      → ((k : ℕ) → member now' k ≡ (member now k || member new k)) → length places ≡ most_points
      → (r : Result (Points × Position) ReadError) → PlacesStay (before + 1) (set places before at) r → StatementsRead s count (before + 1) now' next.at r
      → StatementsRead s count before now at r
  goes_on now new now' places t t_is n j w r st later zero h = absurd (omega arith)
  goes_on now new now' places t t_is n j w r st later (suc f) h =
      rw (reads_here count s before at f, ← d_is, d_moves, ne_eqb code 0x3F on)
      (agrees_where_stay (before + 1) (set places before at) (λ ts points. Kept s count (before + 1) now' points ts) (λ ts points. Kept s count before now points ts)
      (λ ts. record { at = at; statement = statement_read s at code } ∷ ts) (statements f count s (before + 1) next.at) r
      (λ ts points st. kept_here now new now' places points t t_is n j w st ts) st
      (later f (enough_after (statement_context before) s at code next m.read f h)))
