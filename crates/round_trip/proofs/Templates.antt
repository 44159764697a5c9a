-- Templates in range, written out as bytes, are read back as themselves, with each element's mark where it was written.
use Prim.Native.Nat.{ℕ, zero, suc, ◌+◌, ◌≤◌, ◌<◌}
use native.Mathlib.Omega.{arith}
use mathlib.Core.Path.{◌≡◌, refl}
use mathlib.Core.List.{List, [], ◌∷◌, ◌++◌}
use lib.ListN.{length, length-append}
use borrow.Author.Tests.{lt-ltb}
use Rattle.commands.specs.declared.Context.TheVariants.{Templates}
use Rattle.commands.specs.Commands.{all_in_range, allowed, operands_of, operand_bytes}
use Rattle.commands.specs.Reading.{whole}
use Rattle.vocabularies.specs.Vocabulary.{Vocabulary, declared}
use Rattle.pages.specs.declared.Kind.TheVariants.{Template}
use Rattle.pages.specs.Items.{Items}
use Rattle.pages.specs.ItemReading.{templates}
use Rattle.round_trip.specs.Written.{written_items}
use Rattle.round_trip.specs.WrittenJob.{written_template, written_templates, marked_templates}
use Rattle.round_trip.specs.JobInRange.{AllInRange}
use Rattle.round_trip.proofs.Rests.{Rest, behind, grouped, taken, ends_at}
use Rattle.round_trip.proofs.Pages.{reads_items}

pub reads_templates : (D : Vocabulary) (f count : ℕ) (φs : List Items) → AllInRange D φs → count + length φs ≤ 31 → (s : List ℕ) (at : ℕ) (w : List ℕ)
    → Rest s at (written_templates φs ++ w) → length s + length s + 1 < at + at + f
    → templates f (declared D.rules) s count at ≡ whole (marked_templates at φs) (at + length (written_templates φs))
unfolding templates written_templates AllInRange marked_templates allowed operand_bytes operands_of all_in_range
reads_templates D zero count φs i n s at w r h = absurd (omega arith)
reads_templates D (suc f) count [] i n s at w r h = rw (taken Templates 0x2F _ r refl (omega arith) refl)
reads_templates D (suc f) count (φ ∷ φs) i n s at w r h =
    let u = written_template φ in
    let v : List ℕ = written_templates φs ++ w in
    let r₁ = grouped u (written_templates φs) w r in
    let r₂ = grouped (written_items φ) (0x27 ∷ []) v (behind (0x20 ∷ []) r₁) in
    let next : at + 1 + length (written_items φ) + 1 ≡ at + length u = omega (arith, length-append (written_items φ) (0x27 ∷ [])) in
    rw (
      taken Templates 0x20 _ r₁ refl (omega arith) refl,
      lt-ltb count 31 (omega arith),
      reads_items Template (declared D.rules) f 0 φ i.0.items (omega (arith, i.0.nesting)) s (at + 1) v r₂ (omega arith),
      next,
      reads_templates D f (count + 1) φs i.1 (omega arith) s (at + length u) w (behind u r₁) (omega arith),
    )
    (ends_at refl (omega (arith, length-append u (written_templates φs))))
