-- What an attribute gap can take, as items list it.
use Prim.Native.Nat.{ℕ, ◌+◌, ◌^◌, ◌<◌}
use mathlib.Core.Path.{◌≡◌, refl, sym, ap, ◌∙◌}
use mathlib.Core.Bool.{Bool, true, false, cond, not, ◌&&◌, ◌||◌, and-true, or-false}
use mathlib.Core.List.{List, [], ◌∷◌, ◌++◌, append-nil}
use native.Mathlib.Omega.{arith}
use lib.ListN.{length}
use lib.Dec.{eqb}
use borrow.Author.Tests.{eqb-true, eqb-false, ne_eqb}
use Rattle.commands.specs.Commands.{strings}
use Rattle.sets.specs.Sets.{member}
use Rattle.sets.proofs.Laws.{member_zero, member_high}
use Rattle.strings.specs.declared.StringSet.{StringSet}
use Rattle.strings.specs.declared.Values.{Values}
use Rattle.strings.specs.Inner.Promises.{has_string, holds_value}
use Rattle.summaries.specs.Proposal.{string}
use Rattle.summaries.specs.ProposalOf.{unlisted}
use Rattle.graphs.specs.Inner.Graphs.{holds}
use Rattle.proposals.specs.Inner.Bytes.{members, listed_of, string_bytes}
use Rattle.proposals.proofs.Members.{members_same}

-- A string that no item lists is in no set of named ones.
module _ (set : StringSet) (l : set.word < 2 ^ 64) where
  pub unlisted_named : has_string set unlisted ≡ false
  unlisted_named = member_high 64 set.word unlisted l (omega arith)

  pub listed_named : (k : ℕ) → member set.word k ≡ listed_of (has_string set) k
  listed_named k = sym (ap (λ (t : Bool). has_string set k && not t) unlisted_named ∙ and-true (has_string set k))

-- The bytes of the items of a string variable, from the set that is listed.
module _ (v : Values) (r : ℕ) (same : (k : ℕ) → member r k ≡ listed_of (holds_value v) k) where
  pub strings_any : holds_value v unlisted ≡ true → string_bytes (holds_value v) ≡ members (0x47 ∷ []) strings (member r) ++ (0x48 ∷ [])
  unfolding string_bytes
  strings_any e =
      ap (λ (t : Bool). members (0x47 ∷ []) strings (listed_of (holds_value v)) ++ cond t (0x48 ∷ []) []) e
      ∙ ap (λ (bs : List ℕ). bs ++ (0x48 ∷ [])) (sym (members_same (0x47 ∷ []) strings (member r) (listed_of (holds_value v)) (λ k m. same k)))

  pub strings_named : holds_value v unlisted ≡ false → string_bytes (holds_value v) ≡ members (0x47 ∷ []) strings (member r)
  unfolding string_bytes
  strings_named e =
      ap (λ (t : Bool). members (0x47 ∷ []) strings (listed_of (holds_value v)) ++ cond t (0x48 ∷ []) []) e
      ∙ append-nil (members (0x47 ∷ []) strings (listed_of (holds_value v)))
      ∙ sym (members_same (0x47 ∷ []) strings (member r) (listed_of (holds_value v)) (λ k m. same k))

  -- Those that are listed come first.
  pub listed_first : (n : ℕ) → n + length (string_bytes (holds_value v)) ≡ n + length (members (0x47 ∷ []) strings (member r) ++ cond (holds_value v unlisted) (0x48 ∷ []) [])
  listed_first n = go (holds_value v unlisted) refl
    where
      go : (t : Bool) → holds_value v unlisted ≡ t → n + length (string_bytes (holds_value v)) ≡ n + length (members (0x47 ∷ []) strings (member r) ++ cond t (0x48 ∷ []) [])
      go true e = ap (λ (bs : List ℕ). n + length bs) (strings_any e)
      go false e = ap (λ (bs : List ℕ). n + length bs) (strings_named e ∙ sym (append-nil (members (0x47 ∷ []) strings (member r))))

-- ---- the attribute gaps below h that take any string

pub record Gathered (graph : List ℕ) (n gaps h : ℕ) : Type 0 where
  pub few : h < 9
  pub same : (k : ℕ) → k < h → member gaps k ≡ holds graph (string n k unlisted)
  pub none_after : (k : ℕ) → k < 8 → (k < h → ⊥) → member gaps k ≡ false

pub gathered_none : (graph : List ℕ) (n : ℕ) → Gathered graph n 0 0
gathered_none graph n = record { few = omega arith; same = λ k l. absurd (omega arith); none_after = λ k l m. member_zero k }

pub gathered_more : (graph : List ℕ) (n gaps h : ℕ) → Gathered graph n gaps h → h < 8 → (v : Values)
    → ((t : ℕ) → holds_value v t ≡ holds graph (string n h t)) → (any : Bool) → any ≡ holds_value v unlisted → (r : ℕ) → ((k : ℕ) → member r k ≡ ((eqb k h && any) || member gaps k)) → Gathered graph n r (h + 1)
gathered_more graph n gaps h g l v same any is_any r more = record {
  few = omega arith;
  same = λ k m. go k m (eqb k h) refl;
  none_after = λ k m past.
      more k ∙ ap (λ (t : Bool). (t && any) || member gaps k) (ne_eqb k h (λ e. past (omega arith))) ∙ g.none_after k m (λ b. past (omega arith));
}
  where
    go : (k : ℕ) → k < h + 1 → (t : Bool) → eqb k h ≡ t → member r k ≡ holds graph (string n k unlisted)
    go k m true e =
        let is : k ≡ h = eqb-true k h e in
        more k ∙ ap (λ (t : Bool). (t && any) || member gaps k) e ∙ ap (λ (t : Bool). any || t) (g.none_after k (omega arith) (λ b. omega arith)) ∙ or-false any
        ∙ is_any ∙ same unlisted ∙ ap (λ (i : ℕ). holds graph (string n i unlisted)) (sym is)
    go k m false e = more k ∙ ap (λ (t : Bool). (t && any) || member gaps k) e ∙ g.same k (omega (arith, eqb-false k h e))
