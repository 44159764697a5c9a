-- The facts of a formula, gathered command by command: those so far, and the formulas that are pending, which stand one after the
-- other from here up to the end.
use Prim.Native.Nat.{ℕ, ◌+◌, ◌≤◌, ◌<◌}
use mathlib.Core.Path.{◌≡◌, refl, subst}
use mathlib.Core.List.{List, [], ◌∷◌}
use native.Mathlib.Omega.{arith}
use Rattle.commands.specs.Reading.{whole}
use Rattle.vocabularies.specs.declared.FormulaHere.TheVariants.{Nothing}
use Rattle.vocabularies.specs.declared.Facts.{Facts}
use Rattle.vocabularies.specs.Vocabulary.{Formula}
use Rattle.vocabularies.specs.Facts.{Fact, with_facts, facts_of}
use Rattle.vocabularies.specs.VocabularyReading.{Shape, binary, unary, leaf, formula}
use Rattle.vocabularies.specs.Inner.Promises.{Represents, Begins, Stands, FactsRead}
use Rattle.vocabularies.proofs.Formulas.{Formed, formula_ends}
use Rattle.vocabularies.proofs.Walks.{formed_here}
use Rattle.vocabularies.proofs.Gathering.{ShapeAdds}

-- Formulas that stand one after the other, from an offset up to the end.
abbrev Stand : List ℕ → ℕ → ℕ → List Formula → Type 0
Stand s end at [] = at ≡ end
Stand s end at (ψ ∷ ψs) = (f : ℕ) × (depth : ℕ) × (next : ℕ) × (formula f s depth at ≡ whole ψ next) × Stand s end next ψs

stand_ends : (s : List ℕ) (end at : ℕ) (ψs : List Formula) → Stand s end at ψs → at ≤ end
stand_ends s end at [] h = omega arith
stand_ends s end at (ψ ∷ ψs) (f, depth, next, e, h) =
    let l = formula_ends f s depth at ψ next e in
    let m = stand_ends s end next ψs h in
    omega arith

-- The facts so far, with those of each formula of a list.
abbrev with_each : List Formula → List Fact → List Fact
with_each [] xs = xs
with_each (ψ ∷ ψs) xs = with_each ψs (with_facts ψ xs)

pub record Gathered (s : List ℕ) (end : ℕ) (ys : List Fact) (t : Facts) (at : ℕ) : Type 0 where
  pub so_far : List Fact
  pub kept : Represents t so_far
  pub pending : List Formula
  pub stand : Stand s end at pending
  pub come_to : with_each pending so_far ≡ ys

module _ (s : List ℕ) (end : ℕ) (ys : List Fact) (t : Facts) (at : ℕ) where
  all_gathered : end ≤ at → Gathered s end ys t at → Represents t ys
  all_gathered l g = go g.pending g.stand g.come_to
    where
      go : (ψs : List Formula) → Stand s end at ψs → with_each ψs g.so_far ≡ ys → Represents t ys
      go [] h e = subst (Represents t) e g.kept
      go (ψ ∷ ψs) (f, depth, next, r, h) e =
          let m = formula_ends f s depth at ψ next r in
          let n = stand_ends s end next ψs h in
          absurd (omega arith)

  -- Over a command the first formula that is pending is replaced by its parts.
  module _ (r : Facts) (next : ℕ) (xs : List Fact) (k : Represents t xs) (ψ : Formula) (ψs : List Formula) (middle : ℕ) (h : Stand s end middle ψs) (e : with_each ψs (with_facts ψ xs) ≡ ys) where
    parted : (f depth : ℕ) (shape : Shape) → ShapeAdds t r shape → Formed f s depth next shape ψ middle → Gathered s end ys r next
    parted f depth (binary two) (same, joins) (ψ₁, between, ψ₂, e₁, e₂, q) = record {
      so_far = xs;
      kept = rw same k;
      pending = ψ₁ ∷ ψ₂ ∷ ψs;
      stand = (f, depth + 1, between, e₁, (f, depth + 1, middle, e₂, h));
      come_to = rw (← joins ψ₁ ψ₂ xs, ← q) e;
    }
    parted f depth (unary one) (same, joins) (ψ₁, e₁, q) = record {
      so_far = xs;
      kept = rw same k;
      pending = ψ₁ ∷ ψs;
      stand = (f, depth + 1, middle, e₁, h);
      come_to = rw (← joins ψ₁ xs, ← q) e;
    }
    parted f depth (leaf ψ') adds (q, z) = record {
      so_far = with_facts ψ xs;
      kept = rw q (adds xs k);
      pending = ψs;
      stand = rw (← z) h;
      come_to = e;
    }

  module _ (r : Facts) (shape : Shape) (next : ℕ) (B : Begins s at shape next) (adds : ShapeAdds t r shape) where
    more_gathered : at < end → Gathered s end ys t at → Gathered s end ys r next
    more_gathered l g = go g.pending g.stand g.come_to
      where
        go : (ψs : List Formula) → Stand s end at ψs → with_each ψs g.so_far ≡ ys → Gathered s end ys r next
        go [] h e = absurd (omega arith)
        go (ψ ∷ ψs) (f, depth, middle, q, h) e =
            let b = formed_here B f depth ψ middle q in
            parted r next g.so_far g.kept ψ ψs middle h e b.0 depth shape adds b.1

  -- Where a formula is pending, one stands.
  none_pending : at < end → ((f depth end' : ℕ) (ψ : Formula) → formula f s depth at ≡ whole ψ end' → ⊥) → Gathered s end ys t at → ⊥
  none_pending l none g = go g.pending g.stand
    where
      go : (ψs : List Formula) → Stand s end at ψs → ⊥
      go [] h = omega arith
      go (ψ ∷ ψs) (f, depth, middle, q, h) = none f depth middle ψ q

-- What a loop over the commands of a formula keeps to, and what it ends with.
module _ (s : List ℕ) (start end : ℕ) where
  abbrev pub Gathering : Facts → ℕ → Type 0
  Gathering t at = (f depth : ℕ) (ψ : Formula) → formula f s depth start ≡ whole ψ end → Gathered s end (facts_of ψ) t at

  pub gathering_starts : (t : Facts) → Represents t [] → Gathering t start
  gathering_starts t h f depth ψ e = record { so_far = []; kept = h; pending = ψ ∷ []; stand = (f, depth, end, e, refl); come_to = refl }

  module _ (t : Facts) (at : ℕ) where
    pub gathering_ends : end ≤ at → Gathering t at → FactsRead s start end t
    gathering_ends l g f depth ψ e = all_gathered s end (facts_of ψ) t at l (g f depth ψ e)

    module _ (l : at < end) (g : Gathering t at) where
      pub gathering_cut : Stands s at Nothing → FactsRead s start end t
      gathering_cut none f depth ψ q = absurd (none_pending s end (facts_of ψ) t at l none (g f depth ψ q))

      pub gathering_on : {shape : Shape} {next : ℕ} → Begins s at shape next → (r : Facts) → ShapeAdds t r shape → Gathering r next
      gathering_on {shape} {next} B r adds f depth ψ q = more_gathered s end (facts_of ψ) t at r shape next B adds l (g f depth ψ q)
