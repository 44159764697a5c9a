-- What an item says of claims.
use Prim.Native.Nat.{ℕ}
use mathlib.Core.Path.{◌≡◌, refl, sym, ap, ◌∙◌}
use mathlib.Core.List.{List, [], ◌∷◌}
use mathlib.Core.Bool.{true, cond, false≢true}
use lib.ListN.{get_or}
use lib.Dec.{eqb}
use borrow.Author.Tests.{eq-eqb, eqb-true}
use Rattle.summaries.specs.Proposal.{Claim, root, edge, string, gap_from, attribute_gap_from, claim, any_at}
use Rattle.summaries.specs.Summaries.{claim_code, same_code, says_claim}
use Rattle.sets.proofs.Booleans.{and_both, and_left, and_right}

same_code_lem : (ns : List ℕ) → same_code ns ns ≡ true
unfolding same_code
same_code_lem [] = refl
same_code_lem (n ∷ ns) = and_both _ _ (eq-eqb n n refl) (same_code_lem ns)

equal_code : (ns ms : List ℕ) → same_code ns ms ≡ true → ns ≡ ms
unfolding same_code
equal_code [] [] e = refl
equal_code [] (m ∷ ms) e = absurd (false≢true e)
equal_code (n ∷ ns) [] e = absurd (false≢true e)
equal_code (n ∷ ns) (m ∷ ms) e =
    let p : n ≡ m = eqb-true n m (and_left _ _ e) in
    let q : ns ≡ ms = equal_code ns ms (and_right (eqb n m) _ e) in
    cc

-- The claim that some numbers spell.
claim_of : List ℕ → Claim
claim_of ns =
    cond (eqb (get_or ns 0 0) 1) (root (get_or ns 1 0))
    (cond (eqb (get_or ns 0 0) 2) (edge (get_or ns 1 0) (get_or ns 2 0) (get_or ns 3 0))
    (cond (eqb (get_or ns 0 0) 3) (string (get_or ns 1 0) (get_or ns 2 0) (get_or ns 3 0))
    (cond (eqb (get_or ns 0 0) 4) (gap_from (get_or ns 1 0) (get_or ns 2 0))
    (attribute_gap_from (get_or ns 1 0) (get_or ns 2 0)))))

claim_of_lem : (c : Claim) → claim_of (claim_code c) ≡ c
unfolding claim_of
claim_of_lem (root n) = refl
claim_of_lem (edge n g m) = refl
claim_of_lem (string n h s) = refl
claim_of_lem (gap_from g n) = refl
claim_of_lem (attribute_gap_from h n) = refl

-- A claim says itself and no other.
pub says_itself : (c : Claim) → says_claim (claim c) c ≡ true
says_itself c = same_code_lem (claim_code c)

pub says_alone : (c d : Claim) → says_claim (claim c) d ≡ true → c ≡ d
says_alone c d e = sym (claim_of_lem c) ∙ ap claim_of (equal_code _ _ e) ∙ claim_of_lem d

-- Any string at a place says every string there.
pub says_any : (n h t : ℕ) → says_claim (any_at n h) (string n h t) ≡ true
says_any n h t = and_both _ _ (eq-eqb n n refl) (eq-eqb h h refl)
