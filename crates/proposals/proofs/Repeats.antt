-- Entries that hold the same have the same bytes.
use Prim.Native.Nat.{ℕ, ◌+◌, ◌-◌, ◌≤◌, ◌<◌}
use mathlib.Core.Path.{◌≡◌, refl, sym, ap, fun_ext, ◌∙◌}
use mathlib.Core.Bool.{Bool, true, false}
use mathlib.Core.List.{List}
use native.Mathlib.Omega.{arith}
use lib.Dec.{ltb}
use borrow.Author.Tests.{ltb-true, ltb-false}
use Rattle.summaries.specs.Summaries.{Environment}
use Rattle.states.specs.Inner.States.{entries_in}
use Rattle.states.specs.Inner.Promises.{SameEntry}
use Rattle.proposals.specs.Inner.Bytes.{template_bytes, string_bytes, entry_bytes, Repeated}
use Rattle.proposals.proofs.Heads.{entry_template, entry_string}
use Rattle.proposals.proofs.Written.{one_point}

same_items : (templates points : ℕ) (work : List ℕ) (p q v : ℕ) → SameEntry points work p q v → entry_bytes templates (entries_in points work q) v ≡ entry_bytes templates (entries_in points work p) v
same_items templates points work p q v same = go (ltb v 4) refl
  where
    go : (t : Bool) → ltb v 4 ≡ t → entry_bytes templates (entries_in points work q) v ≡ entry_bytes templates (entries_in points work p) v
    go true e =
        let l : v < 4 = ltb-true v 4 e in
        entry_template templates (entries_in points work q) v l ∙ ap (template_bytes templates) (sym (fun_ext (same.template l))) ∙ sym (entry_template templates (entries_in points work p) v l)
    go false e =
        let l : 4 ≤ v = ltb-false v 4 e in
        entry_string templates (entries_in points work q) v l ∙ ap string_bytes (sym (fun_ext (same.string l))) ∙ sym (entry_string templates (entries_in points work p) v l)

pub repeats : (work : List ℕ) (p v : ℕ) → (p ≡ 0 → ⊥) → ((points : ℕ) → p - 1 < points → p < points → SameEntry points work (p - 1) p v) → Repeated work p v
repeats work p v some same = (
  omega arith,
  λ templates. same_items templates (p + 1) work (p - 1) p v (same (p + 1) (omega arith) (omega arith)) ∙ ap (λ (E : Environment). entry_bytes templates E v) (one_point (p + 1) work (p - 1) (omega arith)),
)
