-- Wrong elements as code gives them (document 01, verdict 12; document 02, F-6): a template, the offset of the element's `23` and what the
-- element breaks of its rule, or none.
use Rattle.std.specs.Prelude.{ℕ, zero, suc, ◌≤◌, ◌≡◌, List, true, cond, length, leb, None, Some}
use Rattle.std.specs.Prelude as Prelude
use Rattle.std.proofs.Math.Option.{Option, some, none}
use Rattle.sets.specs.Sets.{member}
use Rattle.verdicts.specs.declared.Breach.{Breach}
use Rattle.pages.specs.Items.{Attribute, Item, text, blank, gap, element, Items, more}
use Rattle.pages.specs.RightPages.{SomeElement, FirstBreach}
use Rattle.programs.specs.Program.{template_at}
use Rattle.patterns.specs.declared.Wrong.{Wrong}

-- A wrong element, or none.
abbrev pub MaybeWrong : Type 0
MaybeWrong = Prelude.Option Wrong

abbrev pub At : ℕ → ℕ → Breach → MaybeWrong
At n at b = Some (record { template = n; at = at; breach = b })

-- The lower of two; the first, if they stand at one offset.
abbrev pub lower_wrong : MaybeWrong → MaybeWrong → MaybeWrong
lower_wrong None w = w
lower_wrong (Some v) None = Some v
lower_wrong (Some v) (Some w) = cond (leb v.at w.at) (Some v) (Some w)

-- An element of template n at an offset, by what it breaks.
abbrev pub wrong_at : ℕ → ℕ → Option Breach → MaybeWrong
wrong_at n at none = None
wrong_at n at (some b) = At n at b

-- What a test tells of an element, by its name, mark, attributes and contents: what it breaks, or none.
abbrev pub Test : Type 0
Test = ℕ → ℕ → List Attribute → Items → Option Breach

-- The lowest element of items of template n, at any depth, of which a test tells something.
unfoldable mutual
  pub lowest_in : ℕ → Test → Items → MaybeWrong
  lowest_in n test Items.none = None
  lowest_in n test (more i φ) = lower_wrong (lowest_of n test i) (lowest_in n test φ)

  pub lowest_of : ℕ → Test → Item → MaybeWrong
  lowest_of n test text = None
  lowest_of n test blank = None
  lowest_of n test (gap g) = None
  lowest_of n test (element e mark δ φ) = lower_wrong (wrong_at n mark (test e mark δ φ)) (lowest_in n test φ)

-- The lowest of what f gives below n.
unfoldable pub lowest_below : ℕ → (ℕ → MaybeWrong) → MaybeWrong
lowest_below zero f = None
lowest_below (suc n) f = lower_wrong (lowest_below n f) (f n)

-- The lowest of what P tells by template, offset and breach.
pub data LowestWrong (P : ℕ → ℕ → Breach → Type 0) : MaybeWrong → Type 0 where
  nowhere : ((n at : ℕ) (b : Breach) → P n at b → ⊥) → LowestWrong P None
  lowest : {n at : ℕ} {b : Breach} → P n at b → ((m other : ℕ) (c : Breach) → P m other c → at ≤ other) → LowestWrong P (At n at b)

-- The lowest wrong element, W telling which there are by template, offset and breach, with the breach that is told of it.
pub data LowestBreach (W : ℕ → ℕ → Breach → Type 0) : MaybeWrong → Type 0 where
  nowhere_wrong : ((n at : ℕ) (b : Breach) → W n at b → ⊥) → LowestBreach W None
  found_lowest : {n at : ℕ} {b : Breach} → FirstBreach (W n at) b → ((m other : ℕ) (c : Breach) → W m other c → at ≤ other) → LowestBreach W (At n at b)

-- An element at an offset of template n, one of the chosen ones, and what a test for each template tells of it.
abbrev pub Passing : List Items → ℕ → (ℕ → Test) → ℕ → ℕ → Breach → Type 0
Passing φs chosen test n at b =
    (n ≤ length φs) × (member chosen n ≡ true) × SomeElement (λ e mark δ φ. (mark ≡ at) × (test n e mark δ φ ≡ some b)) (template_at φs n)
