-- From the statements to the program: the next points are tested when all statements are read.
use Prim.Native.Nat.{ℕ, zero, suc, ◌≤◌, ◌<◌}
use mathlib.Core.Path.{◌≡◌, refl, sym, ap, ◌∙◌}
use mathlib.Core.List.{List, [], ◌∷◌, map}
use mathlib.Core.Bool.{not}
use mathlib.Core.Option.{some, none}
use native.Mathlib.Omega.{arith}
use native.Mathlib.Nat.{sub-zero}
use lib.ListN.{length, get_or, length-map}
use lib.Seq.{slice, length-slice, get_or-take}
use Rattle.std.specs.Prelude as Found
use Rattle.std.specs.Prelude.{Result, Ok, Err}
use Rattle.verdicts.specs.declared.Form.TheVariants.{Missing}
use Rattle.sets.proofs.Laws.{member_zero}
use Rattle.commands.specs.declared.Position.{Position}
use Rattle.commands.specs.declared.ReadError.{ReadError}
use Rattle.commands.specs.Commands.{byte}
use Rattle.commands.specs.Reading.{whole, enough}
use Rattle.commands.specs.Inner.Parts.{Enough}
use Rattle.programs.proofs.Agreement.{WholeAs, agrees_with_whole, agrees_with_refused, whole_agrees_with, refused_agrees_with, enough_enough}
use Rattle.programs.proofs.AtPoints.{points_there_lem}
use Rattle.programs.proofs.Statements.{strayed_is}
use Rattle.programs.specs.declared.Points.{Points}
use Rattle.programs.specs.Program.{statement_at}
use Rattle.programs.specs.ProgramReading.{Placed, statement_read, most_points, points_there, statements, strayed, unless_strayed, program}
use Rattle.programs.specs.Inner.Promises.{number_of, statement_here, placed_at, placed, Kept, StatementsRead, Tabled, ProgramReads}

pub refused_whole : (s : List ℕ) (count at : ℕ) (r : Result (Points × Position) ReadError) (e : ReadError) → StatementsRead s count 0 0 at r → r ≡ Err e → ProgramReads s count at (Err e)
unfolding program
refused_whole s count at r e read refuses g h =
    agrees_with_refused (λ ts points. Kept s count 0 0 points ts) (λ ts points. Tabled s count points ts) (statements g count s 0 at)
    (λ ts end. unless_strayed (strayed (length ts) ts) (whole (map (λ t. t.statement) ts) end)) r e refuses (read g h)

statement_at_lem : (s places : List ℕ) (i : ℕ) → i < length places
    → statement_read s (get_or places i 0) (byte s (get_or places i 0)) ≡ statement_at (map (λ t. t.statement) (placed s places)) i
unfolding statement_at
statement_at_lem s [] i h = absurd (omega arith)
statement_at_lem s (p ∷ ps) zero h = refl
statement_at_lem s (p ∷ ps) (suc i) h = statement_at_lem s ps i (omega arith)

-- What is kept where all statements are read.
module _ (s : List ℕ) (count at : ℕ) (read : Result (Points × Position) ReadError) (r : Points) (end : Position) (reads : StatementsRead s count 0 0 at read) (is_whole : read ≡ Ok (r, end)) where
  kept : (f : ℕ) → Enough s at f → WholeAs (λ ts end. Kept s count 0 0 r ts) (statements f count s 0 at) end
  kept f h = agrees_with_whole (λ ts points. Kept s count 0 0 points ts) (statements f count s 0 at) read r end is_whole (reads f h)

  pub few : r.count ≤ most_points
  few = (kept (enough s) (enough_enough s at)).holds.most

  -- The statements are as many as are counted.
  module _ (ts : List Placed) (K : Kept s count 0 0 r ts) where
    as_many : length (slice 0 r.count r.places) ≡ r.count
    as_many = length-slice 0 r.count r.places (let l = K.most in let w = K.wide in omega arith) ∙ sub-zero r.count

    counted : length ts ≡ r.count
    counted = (ap length K.are ∙ length-map (slice 0 r.count r.places) (placed_at s)) ∙ as_many

    strays_none : Found.find (λ p. not (points_there r.count (statement_here s p))) (slice 0 r.count r.places) ≡ Found.None → strayed (length ts) ts ≡ none
    strays_none e = rw (counted, K.are) ((strayed_is s r.count (slice 0 r.count r.places)).1 e)

    strays_some : (p : ℕ) → Found.find (λ p. not (points_there r.count (statement_here s p))) (slice 0 r.count r.places) ≡ Found.Some p → strayed (length ts) ts ≡ some p
    strays_some p e = rw (counted, K.are) ((strayed_is s r.count (slice 0 r.count r.places)).0 p e)

    placed_at_lem : (i : ℕ) → i < r.count → get_or (slice 0 r.count r.places) i 0 ≡ get_or r.places i 0
    placed_at_lem i h = get_or-take r.count r.places i 0 h

    statement_is : (i : ℕ) → i < r.count → statement_read s (get_or r.places i 0) (byte s (get_or r.places i 0)) ≡ statement_at (map (λ t. t.statement) ts) i
    statement_is i h =
        (ap (λ (p : ℕ). statement_read s p (byte s p)) (sym (placed_at_lem i h)) ∙ statement_at_lem s (slice 0 r.count r.places) i (let e = as_many in omega arith))
        ∙ ap (λ (l : List Placed). statement_at (map (λ t. t.statement) l) i) (sym K.are)

    tabled : strayed (length ts) ts ≡ none → Tabled s count r (map (λ t. t.statement) ts)
    tabled e = record {
      points = sym (length-map ts (λ t. t.statement) ∙ counted);
      most = K.most;
      statement = statement_is;
      stands = λ i h. K.stands i (omega arith) h;
      points_there_lem = λ i h. points_there_lem r.count ts (rw (← counted) e) i;
      names = record { holds = λ v t. K.names.holds v t ∙ rw (member_zero (number_of v)) };
    }

  module _ (stray : Found.Option ℕ) (is : stray ≡ Found.find (λ p. not (points_there r.count (statement_here s p))) (slice 0 r.count r.places)) where
    pub all_whole : stray ≡ Found.None → ProgramReads s count at (Ok (r, end))
    unfolding program
    all_whole n f h =
        let k = kept f h in
        let none_strays = strays_none k.tree k.holds (sym is ∙ n) in
        whole_agrees_with (λ ts points. Tabled s count points ts) (program f count s at) r end (map (λ t. t.statement) k.tree) k.end
        (rw (k.reads, none_strays)) k.ends (tabled k.tree k.holds none_strays)

    pub strays_whole : (p : ℕ) → stray ≡ Found.Some p → ProgramReads s count at (Err (record { form = Missing; at = p }))
    unfolding program
    strays_whole p n f h =
        let k = kept f h in
        let one_strays = strays_some k.tree k.holds p (sym is ∙ n) in
        refused_agrees_with (λ ts points. Tabled s count points ts) (program f count s at) (record { form = Missing; at = p }) (rw (k.reads, one_strays))
