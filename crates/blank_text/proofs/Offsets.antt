-- Verdicts that are the same but for the offset of a wrong element.
use Prim.Native.Nat.{ℕ}
use mathlib.Core.Path.{◌≡◌, refl, sym, ◌∙◌}
use Rattle.verdicts.specs.declared.Breach.{Breach}
use Rattle.verdicts.specs.declared.Breach.TheVariants.{Attribute, Content, Clause}
use Rattle.verdicts.specs.declared.Numbers.{Numbers}
use Rattle.verdicts.specs.Printed.{prints, fault_numbers, element_fault}
use Rattle.blank_text.specs.WithoutBlank.{SameButOffset}

pub unmoved : (v : Numbers) → SameButOffset v v
unmoved v = record { n = refl; a = refl; b = refl; c = λ _ _ _. refl }

-- Two that are so with a third one.
pub both_moved : {v v' w : Numbers} → SameButOffset v w → SameButOffset v' w → SameButOffset v v'
both_moved x x' =
    let n = x.n ∙ sym x'.n in
    record {
      n = n;
      a = x.a ∙ sym x'.a;
      b = x.b ∙ sym x'.b;
      c = λ f g h. x.c f g h ∙ sym (x'.c (λ e. f (n ∙ e)) (λ e. g (n ∙ e)) (λ e. h (n ∙ e)));
    }

pub all_same : {v v' : Numbers} → SameButOffset v v' → v.c ≡ v'.c → v ≡ v'
all_same {v} {v'} s c =
    let e : prints v.n v.a v.b v.c ≡ prints v'.n v'.a v'.b v'.c = rw (s.n, s.a, s.b, c) in e

-- A wrong element, by the same breach at two offsets.
pub element_moved : (p t at at' : ℕ) (b : Breach) → SameButOffset (fault_numbers (element_fault p t at b)) (fault_numbers (element_fault p t at' b))
element_moved p t at at' Attribute = record { n = refl; a = refl; b = refl; c = λ f g h. absurd (f refl) }
element_moved p t at at' Content = record { n = refl; a = refl; b = refl; c = λ f g h. absurd (g refl) }
element_moved p t at at' (Clause i) = record { n = refl; a = refl; b = refl; c = λ f g h. absurd (h refl) }

pub element_offset : (p t at : ℕ) (b : Breach) → (fault_numbers (element_fault p t at b)).c ≡ at
element_offset p t at Attribute = refl
element_offset p t at Content = refl
element_offset p t at (Clause i) = refl
