-- The sets of the templates to which a gap has edges, joined.
use Prim.Native.Nat.{ℕ, suc, ◌+◌, ◌<◌, ◌≤◌}
use mathlib.Core.Path.{◌≡◌, sym, ◌∙◌}
use mathlib.Core.List.{List, []}
use mathlib.Core.Bool.{true, ◌&&◌, false≢true}
use mathlib.Core.Logic.{◌⊎◌, ⊎_elim}
use native.Mathlib.Decide.{ℕ_discrete}
use native.Mathlib.Omega.{arith}
use lib.ListN.{length, get_or, set, length-set}
use lib.Seq.{get_or-set_same, get_or-set_other}
use Rattle.std.specs.Prelude.{Option}
use Rattle.sets.specs.Sets.{member}
use Rattle.sets.proofs.Steps.{IsMember, is_before}
use Rattle.pages.specs.Items.{Items}
use Rattle.summaries.specs.Proposal.{edge}
use Rattle.summaries.specs.Summaries.{Summary}
use Rattle.patterns.specs.Inner.Morphisms.{Morphism}
use Rattle.patterns.specs.Inner.Given.{Bounded}
use Rattle.patterns.specs.Inner.Rounds.{Sets, any_below}
use Rattle.patterns.proofs.Tests.{any_below_lem, below_any}
use Rattle.sets.proofs.Booleans.{and_both, and_left, and_right, alike, refuted}
use Rattle.pattern_sets.specs.Inner.PatternSets.{holds}
use Rattle.graphs.specs.Inner.Graphs.{Keeps}
use Rattle.graphs.specs.Inner.Graphs as Graphs
use Rattle.languages.specs.Inner.Tables.{SetsAre, GapSetsAre}
use Rattle.languages.specs.Inner.Promises.{UnionOf}

-- ---- stepping through the templates

module _ (templates : ℕ) (sets : List (List ℕ)) where
  -- The sets of the templates before the next one.
  pub record UnionTo (next : Option ℕ) (r : List ℕ) : Type 0 where
    pub next_is_held : IsMember templates next
    pub complete : (k y : ℕ) → is_before next k ≡ true → member templates k ≡ true → holds (get_or sets k []) y ≡ true → holds r y ≡ true
    pub sound : (y : ℕ) → holds r y ≡ true → (k : ℕ) × (k < 32) × (member templates k ≡ true) × (holds (get_or sets k []) y ≡ true)

-- ---- a table that is filled from its beginning

-- The rows before a place are as P says.
pub record FilledTo {A : Type 0} (size : ℕ) (d : A) (P : ℕ → A → Type 0) (table : List A) (n : ℕ) : Type 0 where
  pub within : n ≤ size
  pub room : length table ≡ size
  pub done : (k : ℕ) → k < n → P k (get_or table k d)

module _ {A : Type 0} (size : ℕ) (d : A) (P : ℕ → A → Type 0) where
  pub filled_none : (table : List A) → length table ≡ size → FilledTo size d P table 0
  filled_none table room = record { within = omega arith; room = room; done = λ k h. absurd (omega arith) }

  pub filled_more : (table : List A) (n : ℕ) (row : A) → n < size → P n row → FilledTo size d P table n → FilledTo size d P (set table n row) (n + 1)
  filled_more table n row low is so_far = record {
    within = omega arith;
    room = simp length-set so_far.room;
    done = λ k h. go k h (ℕ_discrete k n);
  }
    where
      go : (k : ℕ) → k < n + 1 → Dec (k ≡ n) → P k (get_or (set table n row) k d)
      go k h (yes q) = rw (q, get_or-set_same table n row d (let l : length table ≡ size = so_far.room in omega arith)) is
      go k h (no ne) = rw (get_or-set_other table n k row d ne) (so_far.done k (omega arith))

  -- Up to a number of templates, or all.
  pub filled_up : (table : List A) (n count : ℕ) → (count < n) ⊎ (size ≤ n) → FilledTo size d P table n → (k : ℕ) → k < size → k ≤ count → P k (get_or table k d)
  filled_up table n count ended so_far k low there = so_far.done k (⊎_elim (λ (e : count < n). omega arith) (λ (e : size ≤ n). omega arith) ended)

-- ---- the table of a template's gaps

-- The row of gap g: the sets of the templates of its edges.
pub record GapRow (graph : List ℕ) (n : ℕ) (sets : List (List ℕ)) (g : ℕ) (row : List ℕ) : Type 0 where
  pub templates : ℕ
  pub edges : (m : ℕ) → member templates m ≡ Graphs.holds graph (edge n g m)
  pub union : UnionOf templates sets row

module _ (graph : List ℕ) (n : ℕ) (sets takes : List (List ℕ)) (few : n < 32) (g : ℕ) (so_far : FilledTo 8 [] (GapRow graph n sets) takes g) (ended : 8 ≤ g)
    (φs : List Items) (G : Summary) (M : Morphism) (X : Sets) (small : length φs < 32) (bounded : Bounded φs G) (keeps : Keeps graph G) (are : SetsAre φs M X sets) where
  -- A pattern that the table has is that of a template to which there is an edge.
  record Led (k x : ℕ) : Type 0 where
    to : ℕ
    there : to ≤ length φs
    leads : G (edge n k to) ≡ true
    has : holds (get_or sets to []) x ≡ true

  led : (k x : ℕ) → k < 8 → holds (get_or takes k []) x ≡ true → Led k x
  led k x l h =
      let row = so_far.done k (omega arith) in
      let (m, lm, e, p) = row.union.sound x h in
      let q : G (edge n k m) ≡ true = keeps.same (edge n k m) (few, l) ∙ sym (row.edges m) ∙ e in
      record { to = m; there = bounded.edges n k m q; leads = q; has = p }

  pub gap_sets_are : GapSetsAre φs G M X n takes
  gap_sets_are k l = record {
    inside = λ x h. alike (holds (get_or takes k []) x) (any_below (suc (length φs)) (λ m. G (edge n k m) && X m x)) (into x h) (out x h);
    outside = λ x h. refuted (holds (get_or takes k []) x) (λ e. let d = led k x l e in false≢true (sym ((are d.to d.there).outside x h) ∙ d.has));
  }
    where
      into : (x : ℕ) → x < M.size → holds (get_or takes k []) x ≡ true → any_below (suc (length φs)) (λ m. G (edge n k m) && X m x) ≡ true
      into x h e =
          let d = led k x l e in
          let there : d.to ≤ length φs = d.there in
          any_below_lem (suc (length φs)) (λ m. G (edge n k m) && X m x) d.to (omega arith)
          (and_both _ _ d.leads (sym ((are d.to d.there).inside x h) ∙ d.has))

      out : (x : ℕ) → x < M.size → any_below (suc (length φs)) (λ m. G (edge n k m) && X m x) ≡ true → holds (get_or takes k []) x ≡ true
      out x h e =
          let (m, lm, p) = below_any (suc (length φs)) (λ m. G (edge n k m) && X m x) e in
          let row = so_far.done k (omega arith) in
          row.union.complete m x (omega arith)
          (row.edges m ∙ sym (keeps.same (edge n k m) (few, l)) ∙ and_left (G (edge n k m)) (X m x) p)
          ((are m (omega arith)).inside x h ∙ and_right (G (edge n k m)) (X m x) p)
