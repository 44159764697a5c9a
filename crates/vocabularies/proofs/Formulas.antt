-- Formulas: what each first command makes of the reading, and where a formula that was read ends.
use Prim.Native.Nat.{ℕ, zero, suc, ◌+◌, ◌-◌, ◌≤◌, ◌<◌}
use mathlib.Core.Path.{◌≡◌, refl, sym, ap, ◌∙◌}
use mathlib.Core.List.{List}
use mathlib.Core.Bool.{Bool, true, false, cond}
use native.Mathlib.Omega.{arith}
use lib.ListN.{length}
use lib.Dec.{ltb, eqb}
use borrow.Author.Tests.{lt-ltb, le-ltb, eq-eqb, ne_eqb, eqb-false}
use Rattle.std.specs.Prelude.{Result, Ok, Err}
use Rattle.verdicts.specs.declared.Form.{Form}
use Rattle.verdicts.specs.declared.Form.TheVariants.{TooMany}
use Rattle.commands.specs.declared.Context.TheVariants.{Formulas}
use Rattle.commands.specs.declared.Position.{Position}
use Rattle.commands.specs.declared.Decoded.{Decoded}
use Rattle.commands.specs.declared.Decoded.TheVariants as Decodeds
use Rattle.commands.specs.declared.ReadError.{ReadError}
use Rattle.commands.specs.Commands.{command}
use Rattle.commands.specs.Reading.{Read, whole, refused, unfinished, and_then, when}
use Rattle.commands.specs.Inner.Parts.{Agrees, Enough, part_of}
use Rattle.commands.proofs.Laws.{refused_with, moved, MovedOver}
use Rattle.vocabularies.specs.Vocabulary.{Formula, conj, disj, neg, truth, attr, content, order, value}
use Rattle.vocabularies.specs.VocabularyReading.{Shape, binary, unary, leaf, shape_at, formula_nesting, formula}
use Rattle.vocabularies.specs.Inner.Promises.{FormulaReads}
use Rattle.vocabularies.proofs.Parts.{agrees_whole, agrees_refused, last_agrees, last_whole, plenty, is_plenty, Finished, last_finishes, and_then_finishes, when_finishes}

-- What a formula's first command, of a given shape, makes of the reading.
unfoldable pub shaped : ℕ → List ℕ → ℕ → ℕ → ℕ → Shape → Read Formula
shaped f s depth at next shape = elim shape [
  | binary two ↦ when (ltb depth formula_nesting)
      (λ _. and_then (formula f s (depth + 1) next) λ ψ₁ middle. and_then (formula f s (depth + 1) middle) λ ψ₂ end. whole (two ψ₁ ψ₂) end)
      (λ _. refused TooMany at)
  | unary one ↦ when (ltb depth formula_nesting)
      (λ _. and_then (formula f s (depth + 1) next) λ ψ end. whole (one ψ) end)
      (λ _. refused TooMany at)
  | leaf ψ ↦ whole ψ next
]

pub step : (f : ℕ) (s : List ℕ) (depth at code : ℕ) (next : Position) → command Formulas s at ≡ Decodeds.Moved code next
    → formula (suc f) s depth at ≡ shaped f s depth at next.at (shape_at s at code)
unfolding formula shaped
step f s depth at code next c = rw c

step_refused : (f : ℕ) (s : List ℕ) (depth at : ℕ) (g : Form) (n : ℕ) → command Formulas s at ≡ Decodeds.Refused g n → formula (suc f) s depth at ≡ refused g n
unfolding formula
step_refused f s depth at g n c = rw c

-- The shapes, by the first byte.
two_shape : (s : List ℕ) (at code : ℕ) → 0x10 ≤ code → code < 0x12 → (made : Formula → Formula → Formula) × (shape_at s at code ≡ binary made)
two_shape s at code l h = go (eqb code 0x10) refl
  where
    go : (b : Bool) → eqb code 0x10 ≡ b → (made : Formula → Formula → Formula) × (shape_at s at code ≡ binary made)
    go true e = (conj, rw e)
    go false e = let n : code ≡ 0x10 → ⊥ = eqb-false code 0x10 e in (disj, rw (e, eq-eqb code 0x11 (omega arith)))

one_shape : (s : List ℕ) (at code : ℕ) → code ≡ 0x12 → shape_at s at code ≡ unary neg
one_shape s at code e = rw e

leaf_shape : (s : List ℕ) (at code : ℕ) → (0x10 ≤ code → code ≤ 0x12 → ⊥) → (ψ : Formula) × (shape_at s at code ≡ leaf ψ)
leaf_shape s at code h =
    rw (ne_eqb code 0x10 (λ e. h (omega arith) (omega arith)), ne_eqb code 0x11 (λ e. h (omega arith) (omega arith)), ne_eqb code 0x12 (λ e. h (omega arith) (omega arith)))
    (some_leaf (eqb code 0x13) (eqb code 0x14) (eqb code 0x15) (eqb code 0x16) truth (attr _) (content _) (order _ _) (value _ _))
  where
    some_leaf : (b₁ b₂ b₃ b₄ : Bool) (ψ₁ ψ₂ ψ₃ ψ₄ ψ₅ : Formula)
        → (ψ : Formula) × (cond b₁ (leaf ψ₁) (cond b₂ (leaf ψ₂) (cond b₃ (leaf ψ₃) (cond b₄ (leaf ψ₄) (leaf ψ₅)))) ≡ leaf ψ)
    some_leaf true b₂ b₃ b₄ ψ₁ ψ₂ ψ₃ ψ₄ ψ₅ = (ψ₁, refl)
    some_leaf false true b₃ b₄ ψ₁ ψ₂ ψ₃ ψ₄ ψ₅ = (ψ₂, refl)
    some_leaf false false true b₄ ψ₁ ψ₂ ψ₃ ψ₄ ψ₅ = (ψ₃, refl)
    some_leaf false false false true ψ₁ ψ₂ ψ₃ ψ₄ ψ₅ = (ψ₄, refl)
    some_leaf false false false false ψ₁ ψ₂ ψ₃ ψ₄ ψ₅ = (ψ₅, refl)

-- How a formula of a given shape came to be read whole.
abbrev pub Formed : ℕ → List ℕ → ℕ → ℕ → Shape → Formula → ℕ → Type 0
Formed f s depth next (binary two) ψ end =
    (ψ₁ : Formula) × (middle : ℕ) × (ψ₂ : Formula) × (formula f s (depth + 1) next ≡ whole ψ₁ middle) × (formula f s (depth + 1) middle ≡ whole ψ₂ end) × (ψ ≡ two ψ₁ ψ₂)
Formed f s depth next (unary one) ψ end = (ψ₁ : Formula) × (formula f s (depth + 1) next ≡ whole ψ₁ end) × (ψ ≡ one ψ₁)
Formed f s depth next (leaf ψ') ψ end = (ψ ≡ ψ') × (end ≡ next)

module _ (at : ℕ) (ψ : Formula) (end : ℕ) where
  two_formed : (b : Bool) (x : Read Formula) (y : ℕ → Read Formula) (two : Formula → Formula → Formula)
      → when b (λ _. and_then x λ ψ₁ middle. and_then (y middle) λ ψ₂ end'. whole (two ψ₁ ψ₂) end') (λ _. refused TooMany at) ≡ whole ψ end
      → (ψ₁ : Formula) × (middle : ℕ) × (ψ₂ : Formula) × (x ≡ whole ψ₁ middle) × (y middle ≡ whole ψ₂ end) × (ψ ≡ two ψ₁ ψ₂)
  two_formed true (whole ψ₁ middle) y two e = let w = last_whole (y middle) (two ψ₁) ψ end e in (ψ₁, middle, w.0, refl, w.1, w.2)
  two_formed true (refused f n) y two e = absurd (let z : ◌≡◌ {A = ℕ} 0 1 = cc in omega arith)
  two_formed true unfinished y two e = absurd (let z : ◌≡◌ {A = ℕ} 0 1 = cc in omega arith)
  two_formed false x y two e = absurd (let z : ◌≡◌ {A = ℕ} 0 1 = cc in omega arith)

  one_formed : (b : Bool) (x : Read Formula) (one : Formula → Formula)
      → when b (λ _. and_then x λ ψ₁ end'. whole (one ψ₁) end') (λ _. refused TooMany at) ≡ whole ψ end
      → (ψ₁ : Formula) × (x ≡ whole ψ₁ end) × (ψ ≡ one ψ₁)
  one_formed true x one e = last_whole x one ψ end e
  one_formed false x one e = absurd (let z : ◌≡◌ {A = ℕ} 0 1 = cc in omega arith)

module _ (f : ℕ) (s : List ℕ) (depth at next : ℕ) (ψ : Formula) (end : ℕ) where
  formed : (shape : Shape) → shaped f s depth at next shape ≡ whole ψ end → Formed f s depth next shape ψ end
  unfolding shaped
  formed (binary two) e = two_formed at ψ end (ltb depth formula_nesting) (formula f s (depth + 1) next) (formula f s (depth + 1)) two e
  formed (unary one) e = one_formed at ψ end (ltb depth formula_nesting) (formula f s (depth + 1) next) one e
  formed (leaf ψ') e = (cc, cc)

-- A formula that was read whole begins with the command there, of whose shape it is.
module _ (s : List ℕ) (depth at : ℕ) (ψ : Formula) (end : ℕ) where
  pub not_formed : (f : ℕ) → formula f s depth at ≡ whole ψ end → (i : Form) (n : ℕ) → command Formulas s at ≡ Decodeds.Refused i n → ⊥
  unfolding formula
  not_formed zero e i n c = let z : ◌≡◌ {A = ℕ} 0 1 = cc in omega arith
  not_formed (suc f) e i n c = let z : ◌≡◌ {A = ℕ} 0 1 = cc (step_refused f s depth at i n c) in omega arith

  pub formed_by : (f : ℕ) → formula f s depth at ≡ whole ψ end → (code : ℕ) (next : Position) → command Formulas s at ≡ Decodeds.Moved code next
      → (g : ℕ) × (f ≡ suc g) × Formed g s depth next.at (shape_at s at code) ψ end
  unfolding formula
  formed_by zero e code next c = absurd (let z : ◌≡◌ {A = ℕ} 0 1 = cc in omega arith)
  formed_by (suc f) e code next c = (f, refl, formed f s depth at next.at ψ end (shape_at s at code) (sym (step f s depth at code next c) ∙ e))

-- A formula that was read whole ends behind its start, and within the bytes.
abbrev Ends : ℕ → List ℕ → Type 0
Ends f s = (depth at : ℕ) (ψ : Formula) (end : ℕ) → formula f s depth at ≡ whole ψ end → (at < end) × (end ≤ length s)

shaped_ends : (f : ℕ) (s : List ℕ) (depth at code : ℕ) (next : Position) (ψ : Formula) (end : ℕ) → Ends f s → MovedOver Formulas s at code next
    → (shape : Shape) → Formed f s depth next.at shape ψ end → (at < end) × (end ≤ length s)
shaped_ends f s depth at code next ψ end ends m (binary two) w =
    let l = ends (depth + 1) next.at w.0 w.1 w.3 in
    let r = ends (depth + 1) w.1 w.2 end w.4 in
    omega arith
shaped_ends f s depth at code next ψ end ends m (unary one) w = let l = ends (depth + 1) next.at w.0 end w.1 in omega arith
shaped_ends f s depth at code next ψ end ends m (leaf ψ') w = omega arith

pub formula_ends : (f : ℕ) (s : List ℕ) (depth at : ℕ) (ψ : Formula) (end : ℕ) → formula f s depth at ≡ whole ψ end → (at < end) × (end ≤ length s)
unfolding formula
formula_ends zero s depth at ψ end e = absurd (let z : ◌≡◌ {A = ℕ} 0 1 = cc in omega arith)
formula_ends (suc f) s depth at ψ end e = go (λ depth' at' ψ' end' e'. formula_ends f s depth' at' ψ' end' e') (command Formulas s at) refl
  where
    go : Ends f s → (d : Decoded) → command Formulas s at ≡ d → (at < end) × (end ≤ length s)
    go ends (Decodeds.Moved code next) c =
        shaped_ends f s depth at code next ψ end ends (moved Formulas s at code next c) (shape_at s at code)
        (formed f s depth at next.at ψ end (shape_at s at code) (sym (step f s depth at code next c) ∙ e))
    go ends (Decodeds.Refused i n) c = absurd (not_formed s depth at ψ end (suc f) e i n c)

-- Any two fuels that are enough read the same.
module _ (at : ℕ) where
  two_same : (b : Bool) (x x' : Read Formula) (y y' : ℕ → Read Formula) (two : Formula → Formula → Formula) → x ≡ x' → ((ψ : Formula) (middle : ℕ) → x' ≡ whole ψ middle → y middle ≡ y' middle)
      → ◌≡◌ {A = Read Formula} (when b (λ _. and_then x λ ψ₁ middle. and_then (y middle) λ ψ₂ end'. whole (two ψ₁ ψ₂) end') (λ _. refused TooMany at))
      (when b (λ _. and_then x' λ ψ₁ middle. and_then (y' middle) λ ψ₂ end'. whole (two ψ₁ ψ₂) end') (λ _. refused TooMany at))
  two_same true x (whole ψ middle) y y' two e h = rw (e, h ψ middle refl)
  two_same true x (refused f n) y y' two e h = rw e
  two_same true x unfinished y y' two e h = rw e
  two_same false x x' y y' two e h = refl

  one_same : (b : Bool) (x x' : Read Formula) (one : Formula → Formula) → x ≡ x'
      → ◌≡◌ {A = Read Formula} (when b (λ _. and_then x λ ψ₁ end'. whole (one ψ₁) end') (λ _. refused TooMany at)) (when b (λ _. and_then x' λ ψ₁ end'. whole (one ψ₁) end') (λ _. refused TooMany at))
  one_same b x x' one e = rw e

abbrev Same : ℕ → ℕ → List ℕ → Type 0
Same f g s = (depth at : ℕ) → Enough s at f → Enough s at g → formula f s depth at ≡ formula g s depth at

shaped_same : (f g : ℕ) (s : List ℕ) (depth at code : ℕ) (next : Position) → MovedOver Formulas s at code next → Same f g s → Enough s at (suc f) → Enough s at (suc g) → (shape : Shape)
    → shaped f s depth at next.at shape ≡ shaped g s depth at next.at shape
unfolding shaped
shaped_same f g s depth at code next m same h k (binary two) =
    two_same at (ltb depth formula_nesting) (formula f s (depth + 1) next.at) (formula g s (depth + 1) next.at) (formula f s (depth + 1)) (formula g s (depth + 1)) two
    (same (depth + 1) next.at (omega arith) (omega arith))
    (λ ψ middle e. let l = formula_ends g s (depth + 1) next.at ψ middle e in same (depth + 1) middle (omega arith) (omega arith))
shaped_same f g s depth at code next m same h k (unary one) =
    one_same at (ltb depth formula_nesting) (formula f s (depth + 1) next.at) (formula g s (depth + 1) next.at) one
    (same (depth + 1) next.at (omega arith) (omega arith))
shaped_same f g s depth at code next m same h k (leaf ψ) = refl

pub formula_fuel : (f g : ℕ) (s : List ℕ) (depth at : ℕ) → Enough s at f → Enough s at g → formula f s depth at ≡ formula g s depth at
formula_fuel zero g s depth at h k = absurd (omega arith)
formula_fuel (suc f) zero s depth at h k = absurd (omega arith)
formula_fuel (suc f) (suc g) s depth at h k = go (λ depth' at' h' k'. formula_fuel f g s depth' at' h' k') (command Formulas s at) refl
  where
    go : Same f g s → (d : Decoded) → command Formulas s at ≡ d → formula (suc f) s depth at ≡ formula (suc g) s depth at
    go same (Decodeds.Moved code next) c =
        step f s depth at code next c ∙ shaped_same f g s depth at code next (moved Formulas s at code next c) same h k (shape_at s at code) ∙ sym (step g s depth at code next c)
    go same (Decodeds.Refused i n) c = step_refused f s depth at i n c ∙ sym (step_refused g s depth at i n c)

-- A fuel that is enough does not run out.
shaped_finishes : (f : ℕ) (s : List ℕ) (depth at code : ℕ) (next : Position) → MovedOver Formulas s at code next → ((depth at : ℕ) → Enough s at f → Finished (formula f s depth at))
    → Enough s at (suc f) → (shape : Shape) → Finished (shaped f s depth at next.at shape)
unfolding shaped
shaped_finishes f s depth at code next m fin h (binary two) =
    when_finishes (ltb depth formula_nesting) _ _
    (and_then_finishes (formula f s (depth + 1) next.at) (λ ψ₁ middle. and_then (formula f s (depth + 1) middle) λ ψ₂ end. whole (two ψ₁ ψ₂) end) (fin (depth + 1) next.at (omega arith))
    (λ ψ₁ middle e. let l = formula_ends f s (depth + 1) next.at ψ₁ middle e in last_finishes (formula f s (depth + 1) middle) (two ψ₁) (fin (depth + 1) middle (omega arith)))) tt
shaped_finishes f s depth at code next m fin h (unary one) =
    when_finishes (ltb depth formula_nesting) _ _ (last_finishes (formula f s (depth + 1) next.at) one (fin (depth + 1) next.at (omega arith))) tt
shaped_finishes f s depth at code next m fin h (leaf ψ) = tt

pub formula_finishes : (f : ℕ) (s : List ℕ) (depth at : ℕ) → Enough s at f → Finished (formula f s depth at)
formula_finishes zero s depth at h = absurd (omega arith)
formula_finishes (suc f) s depth at h = go (λ depth' at' h'. formula_finishes f s depth' at' h') (command Formulas s at) refl
  where
    go : ((depth at : ℕ) → Enough s at f → Finished (formula f s depth at)) → (d : Decoded) → command Formulas s at ≡ d → Finished (formula (suc f) s depth at)
    go fin (Decodeds.Moved code next) c =
        rw (step f s depth at code next c) (shaped_finishes f s depth at code next (moved Formulas s at code next c) fin h (shape_at s at code))
    go fin (Decodeds.Refused i n) c = rw (step_refused f s depth at i n c) tt

-- A fuel that reads a formula whole does so with more of it.
module _ (at : ℕ) (ψ : Formula) (end : ℕ) where
  one_raised : (b : Bool) (x x' : Read Formula) (one : Formula → Formula) → ((ψ₁ : Formula) (n : ℕ) → x ≡ whole ψ₁ n → x' ≡ whole ψ₁ n)
      → when b (λ _. and_then x λ ψ₁ end'. whole (one ψ₁) end') (λ _. refused TooMany at) ≡ whole ψ end
      → when b (λ _. and_then x' λ ψ₁ end'. whole (one ψ₁) end') (λ _. refused TooMany at) ≡ whole ψ end
  one_raised true (whole ψ₁ n) x' one up e = rw (up ψ₁ n refl) e
  one_raised true (refused f n) x' one up e = absurd (let z : ◌≡◌ {A = ℕ} 0 1 = cc in omega arith)
  one_raised true unfinished x' one up e = absurd (let z : ◌≡◌ {A = ℕ} 0 1 = cc in omega arith)
  one_raised false x x' one up e = e

  two_raised : (b : Bool) (x x' : Read Formula) (y y' : ℕ → Read Formula) (two : Formula → Formula → Formula)
      → ((ψ₁ : Formula) (n : ℕ) → x ≡ whole ψ₁ n → x' ≡ whole ψ₁ n) → ((m : ℕ) (ψ₁ : Formula) (n : ℕ) → y m ≡ whole ψ₁ n → y' m ≡ whole ψ₁ n)
      → when b (λ _. and_then x λ ψ₁ middle. and_then (y middle) λ ψ₂ end'. whole (two ψ₁ ψ₂) end') (λ _. refused TooMany at) ≡ whole ψ end
      → when b (λ _. and_then x' λ ψ₁ middle. and_then (y' middle) λ ψ₂ end'. whole (two ψ₁ ψ₂) end') (λ _. refused TooMany at) ≡ whole ψ end
  two_raised true (whole ψ₁ n) x' y y' two up up' e = rw (up ψ₁ n refl) (one_raised true (y n) (y' n) (two ψ₁) (up' n) e)
  two_raised true (refused f n) x' y y' two up up' e = absurd (let z : ◌≡◌ {A = ℕ} 0 1 = cc in omega arith)
  two_raised true unfinished x' y y' two up up' e = absurd (let z : ◌≡◌ {A = ℕ} 0 1 = cc in omega arith)
  two_raised false x x' y y' two up up' e = e

pub formula_raised : (f g : ℕ) (s : List ℕ) (depth at : ℕ) (ψ : Formula) (end : ℕ) → formula f s depth at ≡ whole ψ end → formula (f + g) s depth at ≡ whole ψ end
unfolding formula shaped
formula_raised zero g s depth at ψ end e = absurd (let z : ◌≡◌ {A = ℕ} 0 1 = cc in omega arith)
formula_raised (suc f) g s depth at ψ end e =
    let q : suc f + g ≡ suc (f + g) = omega arith in
    rw q (go (λ depth' at' ψ' end' e'. formula_raised f g s depth' at' ψ' end' e') (command Formulas s at) refl)
  where
    by_shape : ((depth at : ℕ) (ψ : Formula) (end : ℕ) → formula f s depth at ≡ whole ψ end → formula (f + g) s depth at ≡ whole ψ end)
        → (next : ℕ) (shape : Shape) → shaped f s depth at next shape ≡ whole ψ end → shaped (f + g) s depth at next shape ≡ whole ψ end
    by_shape up next (binary two) e =
        two_raised at ψ end (ltb depth formula_nesting) (formula f s (depth + 1) next) (formula (f + g) s (depth + 1) next) (formula f s (depth + 1)) (formula (f + g) s (depth + 1)) two
        (up (depth + 1) next) (up (depth + 1)) e
    by_shape up next (unary one) e =
        one_raised at ψ end (ltb depth formula_nesting) (formula f s (depth + 1) next) (formula (f + g) s (depth + 1) next) one (up (depth + 1) next) e
    by_shape up next (leaf ψ') e = e

    go : ((depth at : ℕ) (ψ : Formula) (end : ℕ) → formula f s depth at ≡ whole ψ end → formula (f + g) s depth at ≡ whole ψ end)
        → (d : Decoded) → command Formulas s at ≡ d → formula (suc (f + g)) s depth at ≡ whole ψ end
    go up (Decodeds.Moved code next) c =
        step (f + g) s depth at code next c ∙ by_shape up next.at (shape_at s at code) (sym (step f s depth at code next c) ∙ e)
    go up (Decodeds.Refused i n) c = absurd (not_formed s depth at ψ end (suc f) e i n c)

-- What code that reads a formula does at each return.
module _ (s : List ℕ) (depth at : ℕ) where
  pub formula_refused : (d : Decoded) (e : ReadError) → d ≡ command Formulas s at → part_of d ≡ Err e → FormulaReads s depth at (Err e)
  formula_refused d e c q zero h = absurd (omega arith)
  formula_refused d e c q (suc f) h = rw (step_refused f s depth at e.form e.at (sym c ∙ refused_with d e q)) (refl, refl)

  module _ (d : Decoded) (code : ℕ) (next : Position) (c : d ≡ command Formulas s at) (e : d ≡ Decodeds.Moved code next) where
    m : MovedOver Formulas s at code next
    m = moved Formulas s at code next (sym c ∙ e)

    stepped : (f : ℕ) (shape : Shape) → shape_at s at code ≡ shape → formula (suc f) s depth at ≡ shaped f s depth at next.at shape
    stepped f shape q = rw (step f s depth at code next (sym c ∙ e), q)

    pub formula_deep_two : 0x10 ≤ code → code < 0x12 → formula_nesting ≤ depth → FormulaReads s depth at (Err (record { form = TooMany; at = at }))
    unfolding shaped
    formula_deep_two l k deep zero h = absurd (omega arith)
    formula_deep_two l k deep (suc f) h = let w = two_shape s at code l k in rw (stepped f (binary w.0) w.1, le-ltb depth formula_nesting deep) (refl, refl)

    pub formula_deep_one : code ≡ 0x12 → formula_nesting ≤ depth → FormulaReads s depth at (Err (record { form = TooMany; at = at }))
    unfolding shaped
    formula_deep_one k deep zero h = absurd (omega arith)
    formula_deep_one k deep (suc f) h = rw (stepped f (unary neg) (one_shape s at code k), le-ltb depth formula_nesting deep) (refl, refl)

    module _ (shallow : depth < formula_nesting) where
      module _ (l : 0x10 ≤ code) (k : code < 0x12) where
        pub formula_first : (i : ReadError) → FormulaReads s (depth + 1) next.at (Err i) → FormulaReads s depth at (Err i)
        unfolding shaped
        formula_first i x zero h = absurd (omega arith)
        formula_first i x (suc f) h =
            let w = two_shape s at code l k in
            let y = agrees_refused (λ ψ end. Unit {0}) (formula f s (depth + 1) next.at) i (x f (omega (arith, m))) in
            rw (stepped f (binary w.0) w.1, lt-ltb depth formula_nesting shallow, y) (refl, refl)

        pub formula_two : (middle : Position) → FormulaReads s (depth + 1) next.at (Ok middle) → (r : Result Position ReadError) → FormulaReads s (depth + 1) middle.at r
            → FormulaReads s depth at r
        unfolding shaped
        formula_two middle x r y zero h = absurd (omega arith)
        formula_two middle x r y (suc f) h =
            let w = two_shape s at code l k in
            let a = agrees_whole (λ ψ end. Unit {0}) (formula f s (depth + 1) next.at) middle (x f (omega (arith, m))) in
            let z = formula_ends f s (depth + 1) next.at a.0 middle.at a.1 in
            rw (stepped f (binary w.0) w.1, lt-ltb depth formula_nesting shallow, a.1)
            (last_agrees (formula f s (depth + 1) middle.at) (w.0 a.0) r (y f (omega (arith, m))))

      pub formula_one : code ≡ 0x12 → (r : Result Position ReadError) → FormulaReads s (depth + 1) next.at r → FormulaReads s depth at r
      unfolding shaped
      formula_one k r x zero h = absurd (omega arith)
      formula_one k r x (suc f) h =
          rw (stepped f (unary neg) (one_shape s at code k), lt-ltb depth formula_nesting shallow)
          (last_agrees (formula f s (depth + 1) next.at) neg r (x f (omega (arith, m))))

    formula_leaf : (0x10 ≤ code → code ≤ 0x12 → ⊥) → FormulaReads s depth at (Ok next)
    unfolding shaped
    formula_leaf l zero h = absurd (omega arith)
    formula_leaf l (suc f) h = let q = leaf_shape s at code l in rw (stepped f (leaf q.0) q.1) (refl, tt)

    pub formula_low : code < 0x10 → FormulaReads s depth at (Ok next)
    formula_low l = formula_leaf (λ a b. omega arith)

    pub formula_high : 0x12 ≤ code → (code ≡ 0x12 → ⊥) → FormulaReads s depth at (Ok next)
    formula_high l n = formula_leaf (λ a b. n (omega arith))

-- What code that read a formula has where one can be read there.
module _ (s : List ℕ) (depth at : ℕ) where
  pub formula_whole : (r : Result Position ReadError) → FormulaReads s depth at r → (f : ℕ) (ψ : Formula) (end : ℕ) → formula f s depth at ≡ whole ψ end → r ≡ Ok (record { at = end })
  formula_whole r x f ψ end e = by_part r refl (rw (formula_raised f (plenty s at) s depth at ψ end e) at (x (f + plenty s at) (omega (arith, is_plenty s at))))
    where
      by_part : (p : Result Position ReadError) → r ≡ p → Agrees (whole ψ end) p → r ≡ Ok (record { at = end })
      by_part (Ok p) q a = q ∙ ap (λ (n : ℕ). Ok (record { at = n })) a.0
      by_part (Err i) q a = absurd a

  -- Code that read a formula whole stands behind its start, and within the bytes.
  pub formula_moved : (p : Position) → FormulaReads s depth at (Ok p) → (at < p.at) × (p.at ≤ length s)
  formula_moved p x =
      let a = agrees_whole (λ ψ end. Unit {0}) (formula (plenty s at) s depth at) p (x (plenty s at) (is_plenty s at)) in
      formula_ends (plenty s at) s depth at a.0 p.at a.1

-- The bytes that are left fall over a command and a formula.
pub formula_falls : (s : List ℕ) (t at code : ℕ) (d : Decoded) (next : Position) → length s - at ≡ t → d ≡ command Formulas s at → d ≡ Decodeds.Moved code next
    → (depth : ℕ) (middle : Position) → FormulaReads s depth next.at (Ok middle) → length s - middle.at < t
formula_falls s t at code d next l c e depth middle x =
    let m = moved Formulas s at code next (sym c ∙ e) in
    let n = formula_moved s depth next.at middle x in
    omega arith
