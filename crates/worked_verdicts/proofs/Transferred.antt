-- Lists of items that say all that a transfer function makes of entries. Claims that are not held may stand in them: each is tested
-- where the list is compared.
use Prim.Native.Nat.{ℕ}
use mathlib.Core.Path.{◌≡◌, refl, sym, ap, ◌∙◌}
use mathlib.Core.List.{List, [], ◌∷◌, ◌++◌, map}
use mathlib.Core.Bool.{Bool, true, false, cond, ◌&&◌, ◌||◌, false≢true}
use mathlib.Core.Logic.{inl, inr}
use lib.Dec.{eqb}
use borrow.Author.Tests.{eqb-true, eq-eqb}
use Rattle.pages.specs.Items.{Value, string, open_gap, Attribute, Item, text, blank, gap, element, Items, none, more, gap_in, gap_in_item, is_open_gap, open_in, attribute_gap_in, attribute_gap_in_item}
use Rattle.summaries.specs.Proposal.{Claim, root, edge, gap_from, attribute_gap_from, Holding, claim, any_at, one_string}
use Rattle.summaries.specs.Proposal as Proposal
use Rattle.summaries.specs.Summaries.{Summary, Strings, Within, fragment, plug_summary, plug_string_summary, is_string_at, says_claim, says_string, held}
use Rattle.sets.proofs.Booleans.{or_left, or_right, or_cases, and_both, and_left, and_right}
use Rattle.entries.proofs.Claims.{says_itself, says_alone, says_any}
use Rattle.summaries.proofs.Held.{held_before, held_behind}
use Rattle.worked_verdicts.proofs.Comparing.{Each, each_append, each_map, WholeTemplate, ListsTemplate, template_whole}

-- Items that are claims.
abbrev says_among : List Claim → Claim → Bool
says_among cs = held says_claim (map claim cs)

claims_whole : (F : Summary) (cs : List Claim) → Each (WholeTemplate F) (map claim cs)
claims_whole F [] = tt
claims_whole F (c ∷ cs) = (tt, claims_whole F cs)

among_first : (c : Claim) (cs ds : List Claim) → says_among cs c ≡ true → says_among (cs ++ ds) c ≡ true
unfolding held
among_first c [] ds e = absurd (false≢true e)
among_first c (d ∷ cs) ds e = elim (or_cases (says_claim (claim d) c) (says_among cs c) e) [
  | inl h ↦ or_left _ _ h
  | inr h ↦ or_right (says_claim (claim d) c) _ (among_first c cs ds h)
]

among_second : (c : Claim) (cs ds : List Claim) → says_among ds c ≡ true → says_among (cs ++ ds) c ≡ true
unfolding held
among_second c [] ds e = e
among_second c (d ∷ cs) ds e = or_right (says_claim (claim d) c) _ (among_second c cs ds e)

among_here : (c : Claim) (cs : List Claim) → says_among (c ∷ cs) c ≡ true
unfolding held
among_here c cs = or_left _ _ (says_itself c)

-- An item that says a claim of no string is that claim.
is_claim : (c : Claim) → ((n h : ℕ) → is_string_at n h c ≡ false) → (x : Holding) → says_claim x c ≡ true → x ≡ claim c
is_claim c other (claim d) e = ap claim (says_alone d c e)
is_claim c other (any_at n h) e = absurd (false≢true (sym (other n h) ∙ e))
is_claim c other (one_string s) e = absurd (false≢true e)
is_claim c other Proposal.any_string e = absurd (false≢true e)

-- A template: its number as a root, and its gaps.
abbrev value_origins : ℕ → Value → List Claim
value_origins n (string s) = []
value_origins n (open_gap h) = attribute_gap_from h n ∷ []

unfoldable attribute_origins : ℕ → List Attribute → List Claim
attribute_origins n [] = []
attribute_origins n (a ∷ δ) = value_origins n a.value ++ attribute_origins n δ

unfoldable mutual
  unfolding attribute_origins

  origins : ℕ → Items → List Claim
  origins n none = []
  origins n (more i φ) = item_origins n i ++ origins n φ

  item_origins : ℕ → Item → List Claim
  item_origins n text = []
  item_origins n blank = []
  item_origins n (gap g) = gap_from g n ∷ []
  item_origins n (element e mark δ φ) = attribute_origins n δ ++ origins n φ

module _ (n : ℕ) where
  mutual
    unfolding origins gap_in

    gap_listed : (φ : Items) (g : ℕ) → gap_in φ g ≡ true → says_among (origins n φ) (gap_from g n) ≡ true
    gap_listed none g e = absurd (false≢true e)
    gap_listed (more i φ) g e = elim (or_cases (gap_in_item i g) (gap_in φ g) e) [
      | inl h ↦ among_first (gap_from g n) (item_origins n i) (origins n φ) (gap_listed_in i g h)
      | inr h ↦ among_second (gap_from g n) (item_origins n i) (origins n φ) (gap_listed φ g h)
    ]

    gap_listed_in : (i : Item) (g : ℕ) → gap_in_item i g ≡ true → says_among (item_origins n i) (gap_from g n) ≡ true
    gap_listed_in text g e = absurd (false≢true e)
    gap_listed_in blank g e = absurd (false≢true e)
    gap_listed_in (gap k) g e = rw (eqb-true k g e) (among_here (gap_from g n) [])
    gap_listed_in (element a mark δ φ) g e = among_second (gap_from g n) (attribute_origins n δ) (origins n φ) (gap_listed φ g e)

  open_listed : (δ : List Attribute) (h : ℕ) → open_in δ h ≡ true → says_among (attribute_origins n δ) (attribute_gap_from h n) ≡ true
  unfolding attribute_origins open_in
  open_listed [] h e = absurd (false≢true e)
  open_listed (a ∷ δ) h e = elim (or_cases (is_open_gap a.value h) (open_in δ h) e) [
    | inl k ↦ among_first (attribute_gap_from h n) (value_origins n a.value) (attribute_origins n δ) (here a.value k)
    | inr k ↦ among_second (attribute_gap_from h n) (value_origins n a.value) (attribute_origins n δ) (open_listed δ h k)
  ]
    where
      here : (v : Value) → is_open_gap v h ≡ true → says_among (value_origins n v) (attribute_gap_from h n) ≡ true
      here (string s) k = absurd (false≢true k)
      here (open_gap l) k = rw (eqb-true l h k) (among_here (attribute_gap_from h n) [])

  mutual
    unfolding origins attribute_gap_in

    attribute_listed : (φ : Items) (h : ℕ) → attribute_gap_in φ h ≡ true → says_among (origins n φ) (attribute_gap_from h n) ≡ true
    attribute_listed none h e = absurd (false≢true e)
    attribute_listed (more i φ) h e = elim (or_cases (attribute_gap_in_item i h) (attribute_gap_in φ h) e) [
      | inl k ↦ among_first (attribute_gap_from h n) (item_origins n i) (origins n φ) (attribute_listed_in i h k)
      | inr k ↦ among_second (attribute_gap_from h n) (item_origins n i) (origins n φ) (attribute_listed φ h k)
    ]

    attribute_listed_in : (i : Item) (h : ℕ) → attribute_gap_in_item i h ≡ true → says_among (item_origins n i) (attribute_gap_from h n) ≡ true
    attribute_listed_in text h e = absurd (false≢true e)
    attribute_listed_in blank h e = absurd (false≢true e)
    attribute_listed_in (gap k) h e = absurd (false≢true e)
    attribute_listed_in (element a mark δ φ) h e = elim (or_cases (open_in δ h) (attribute_gap_in φ h) e) [
      | inl k ↦ among_first (attribute_gap_from h n) (attribute_origins n δ) (origins n φ) (open_listed δ h k)
      | inr k ↦ among_second (attribute_gap_from h n) (attribute_origins n δ) (origins n φ) (attribute_listed φ h k)
    ]

unfoldable pub fragment_items : ℕ → Items → List Holding
unfolding origins
fragment_items n φ = map claim (root n ∷ origins n φ)

pub fragment_lists : (n : ℕ) (φ : Items) → ListsTemplate (fragment n φ) (fragment_items n φ)
unfolding fragment_items
fragment_lists n φ = record { complete = complete; whole = claims_whole (fragment n φ) (root n ∷ origins n φ) }
  where
    complete : Within (fragment n φ) (says_among (root n ∷ origins n φ))
    complete (root m) e = rw (eqb-true m n e) (among_here (root n) (origins n φ))
    complete (edge m g k) e = absurd (false≢true e)
    complete (Proposal.string m h s) e = absurd (false≢true e)
    complete (gap_from g m) e = rw (eqb-true m n (and_left _ _ e))
        (among_second (gap_from g n) (root n ∷ []) (origins n φ) (gap_listed n φ g (and_right (eqb m n) _ e)))
    complete (attribute_gap_from h m) e = rw (eqb-true m n (and_left _ _ e))
        (among_second (attribute_gap_from h n) (root n ∷ []) (origins n φ) (attribute_listed n φ h (and_right (eqb m n) _ e)))

-- A plug: both entries, and edges from the origins of a gap to the roots plugged in.
abbrev edge_to : ℕ → ℕ → Holding → List Claim
edge_to n g (claim (root m)) = edge n g m ∷ []
edge_to n g (claim (edge m k l)) = []
edge_to n g (claim (Proposal.string m h s)) = []
edge_to n g (claim (gap_from k m)) = []
edge_to n g (claim (attribute_gap_from h m)) = []
edge_to n g (any_at m h) = []
edge_to n g (one_string s) = []
edge_to n g Proposal.any_string = []

unfoldable edges_from : ℕ → ℕ → List Holding → List Claim
edges_from n g [] = []
edges_from n g (y ∷ ys) = edge_to n g y ++ edges_from n g ys

abbrev edges_of : List Holding → Holding → List Claim
edges_of ys (claim (root m)) = []
edges_of ys (claim (edge m k l)) = []
edges_of ys (claim (Proposal.string m h s)) = []
edges_of ys (claim (gap_from g n)) = edges_from n g ys
edges_of ys (claim (attribute_gap_from h m)) = []
edges_of ys (any_at m h) = []
edges_of ys (one_string s) = []
edges_of ys Proposal.any_string = []

unfoldable edges : List Holding → List Holding → List Claim
unfolding edges_from
edges [] ys = []
edges (x ∷ xs) ys = edges_of ys x ++ edges xs ys

root_edge : (n g m : ℕ) (ys : List Holding) → held says_claim ys (root m) ≡ true → says_among (edges_from n g ys) (edge n g m) ≡ true
unfolding edges_from held
root_edge n g m [] e = absurd (false≢true e)
root_edge n g m (y ∷ ys) e = elim (or_cases (says_claim y (root m)) (held says_claim ys (root m)) e) [
  | inl h ↦ rw (is_claim (root m) (λ k l. refl) y h) (among_here (edge n g m) (edges_from n g ys))
  | inr h ↦ among_second (edge n g m) (edge_to n g y) (edges_from n g ys) (root_edge n g m ys h)
]

gap_edge : (n g m : ℕ) (xs ys : List Holding) → held says_claim xs (gap_from g n) ≡ true → held says_claim ys (root m) ≡ true → says_among (edges xs ys) (edge n g m) ≡ true
unfolding edges held
gap_edge n g m [] ys e f = absurd (false≢true e)
gap_edge n g m (x ∷ xs) ys e f = elim (or_cases (says_claim x (gap_from g n)) (held says_claim xs (gap_from g n)) e) [
  | inl h ↦ rw (is_claim (gap_from g n) (λ k l. refl) x h) (among_first (edge n g m) (edges_from n g ys) (edges xs ys) (root_edge n g m ys f))
  | inr h ↦ among_second (edge n g m) (edges_of ys x) (edges xs ys) (gap_edge n g m xs ys h f)
]

unfoldable pub plug_items : List Holding → List Holding → List Holding
unfolding edges
plug_items xs ys = xs ++ (ys ++ map claim (edges xs ys))

-- Any string stays where it is in a summary that holds its strings.
whole_more : (F H : Summary) → ((n h t : ℕ) → F (Proposal.string n h t) ≡ true → H (Proposal.string n h t) ≡ true) → (xs : List Holding)
    → Within (held says_claim xs) F → Each (WholeTemplate H) xs
whole_more F H more_strings xs w = each_map (WholeTemplate F) (WholeTemplate H) item xs (template_whole F xs w)
  where
    item : (x : Holding) → WholeTemplate F x → WholeTemplate H x
    item (claim c) v = tt
    item (any_at n h) v = λ t. more_strings n h t (v t)
    item (one_string s) v = tt
    item Proposal.any_string v = tt

module _ (g : ℕ) (xs ys : List Holding) where
  abbrev S : Summary
  S = held says_claim xs

  abbrev T : Summary
  T = held says_claim ys

  abbrev es : List Holding
  es = map claim (edges xs ys)

  of_first : (c : Claim) → S c ≡ true → held says_claim (xs ++ (ys ++ es)) c ≡ true
  of_first c e = held_before says_claim c xs (ys ++ es) e

  of_second : (c : Claim) → T c ≡ true → held says_claim (xs ++ (ys ++ es)) c ≡ true
  of_second c e = held_behind says_claim c xs (ys ++ es) (held_before says_claim c ys es e)

  of_edges : (c : Claim) → held says_claim es c ≡ true → held says_claim (xs ++ (ys ++ es)) c ≡ true
  of_edges c e = held_behind says_claim c xs (ys ++ es) (held_behind says_claim c ys es e)

  of_either : (c : Claim) → (S c || T c) ≡ true → held says_claim (xs ++ (ys ++ es)) c ≡ true
  of_either c e = elim (or_cases (S c) (T c) e) [ inl h ↦ of_first c h | inr h ↦ of_second c h ]

  complete : Within (plug_summary g S T) (held says_claim (xs ++ (ys ++ es)))
  complete (root n) e = of_first (root n) e
  complete (edge n k m) e = elim (or_cases (S (edge n k m) || T (edge n k m)) (eqb k g && S (gap_from k n) && T (root m)) e) [
    | inl h ↦ of_either (edge n k m) h
    | inr h ↦ of_edges (edge n k m)
        (gap_edge n k m xs ys (and_right (eqb k g) _ (and_left _ _ h)) (and_right (eqb k g && S (gap_from k n)) _ h))
  ]
  complete (Proposal.string n h s) e = of_either (Proposal.string n h s) e
  complete (gap_from k n) e = go (eqb k g) e
    where
      go : (b : Bool) → cond b (T (gap_from k n)) (S (gap_from k n) || T (gap_from k n)) ≡ true → held says_claim (xs ++ (ys ++ es)) (gap_from k n) ≡ true
      go true q = of_second (gap_from k n) q
      go false q = of_either (gap_from k n) q
  complete (attribute_gap_from h n) e = of_either (attribute_gap_from h n) e

  pub plug_lists : ListsTemplate (plug_summary g S T) (plug_items xs ys)
  unfolding plug_items
  plug_lists = record {
    complete = complete;
    whole = each_append _ xs (ys ++ es) (whole_more S (plug_summary g S T) (λ n h t e. or_left _ (T (Proposal.string n h t)) e) xs (λ c e. e))
        (each_append _ ys es (whole_more T (plug_summary g S T) (λ n h t e. or_right (S (Proposal.string n h t)) _ e) ys (λ c e. e)) (claims_whole (plug_summary g S T) (edges xs ys)));
  }

-- A plug of strings: the entry, and strings at the origins of the attribute gap.
abbrev filling : ℕ → ℕ → Holding → List Holding
filling n h (claim c) = []
filling n h (any_at m k) = []
filling n h (one_string s) = claim (Proposal.string n h s) ∷ []
filling n h Proposal.any_string = any_at n h ∷ []

unfoldable fillings : ℕ → ℕ → List Holding → List Holding
fillings n h [] = []
fillings n h (y ∷ ys) = filling n h y ++ fillings n h ys

abbrev filled_at : ℕ → List Holding → Holding → List Holding
filled_at h ys (claim (root m)) = []
filled_at h ys (claim (edge m k l)) = []
filled_at h ys (claim (Proposal.string m k s)) = []
filled_at h ys (claim (gap_from g n)) = []
filled_at h ys (claim (attribute_gap_from k n)) = cond (eqb k h) (fillings n k ys) []
filled_at h ys (any_at m k) = []
filled_at h ys (one_string s) = []
filled_at h ys Proposal.any_string = []

unfoldable filled : ℕ → List Holding → List Holding → List Holding
unfolding fillings
filled h [] ys = []
filled h (x ∷ xs) ys = filled_at h ys x ++ filled h xs ys

string_filled : (n h s : ℕ) (ys : List Holding) → held says_string ys s ≡ true → held says_claim (fillings n h ys) (Proposal.string n h s) ≡ true
unfolding fillings held
string_filled n h s [] e = absurd (false≢true e)
string_filled n h s (y ∷ ys) e = elim (or_cases (says_string y s) (held says_string ys s) e) [
  | inl k ↦ held_before says_claim (Proposal.string n h s) (filling n h y) (fillings n h ys) (here y k)
  | inr k ↦ held_behind says_claim (Proposal.string n h s) (filling n h y) (fillings n h ys) (string_filled n h s ys k)
]
  where
    here : (y : Holding) → says_string y s ≡ true → held says_claim (filling n h y) (Proposal.string n h s) ≡ true
    here (claim c) k = absurd (false≢true k)
    here (any_at m l) k = absurd (false≢true k)
    here (one_string t) k = rw (eqb-true s t k) (or_left _ _ (says_itself (Proposal.string n h t)))
    here Proposal.any_string k = or_left _ _ (says_any n h s)

origin_filled : (n h s : ℕ) (xs ys : List Holding) → held says_claim xs (attribute_gap_from h n) ≡ true → held says_string ys s ≡ true
    → held says_claim (filled h xs ys) (Proposal.string n h s) ≡ true
unfolding filled held
origin_filled n h s [] ys e f = absurd (false≢true e)
origin_filled n h s (x ∷ xs) ys e f = elim (or_cases (says_claim x (attribute_gap_from h n)) (held says_claim xs (attribute_gap_from h n)) e) [
  | inl k ↦ held_before says_claim (Proposal.string n h s) (filled_at h ys x) (filled h xs ys)
      (rw (is_claim (attribute_gap_from h n) (λ m l. refl) x k, eq-eqb h h refl) (string_filled n h s ys f))
  | inr k ↦ held_behind says_claim (Proposal.string n h s) (filled_at h ys x) (filled h xs ys) (origin_filled n h s xs ys k f)
]

-- Any string that is filled in is held.
module _ (h : ℕ) (S : Summary) (Y : Strings) where
  fillings_whole : (n k : ℕ) → eqb k h ≡ true → S (attribute_gap_from k n) ≡ true → (ys : List Holding) → Within (held says_string ys) Y
      → Each (WholeTemplate (plug_string_summary h S Y)) (fillings n k ys)
  unfolding fillings held
  fillings_whole n k q o [] w = tt
  fillings_whole n k q o (y ∷ ys) w = each_append _ (filling n k y) (fillings n k ys) (item y (λ t e. w t (or_left _ _ e)))
      (fillings_whole n k q o ys (λ t e. w t (or_right (says_string y t) _ e)))
    where
      item : (y : Holding) → Within (says_string y) Y → Each (WholeTemplate (plug_string_summary h S Y)) (filling n k y)
      item (claim c) v = tt
      item (any_at m l) v = tt
      item (one_string s) v = (tt, tt)
      item Proposal.any_string v = (λ t. or_right (S (Proposal.string n k t)) _ (and_both _ _ (and_both _ _ q o) (v t refl)), tt)

  filled_whole : (xs ys : List Holding) → Within (held says_claim xs) S → Within (held says_string ys) Y → Each (WholeTemplate (plug_string_summary h S Y)) (filled h xs ys)
  unfolding filled held
  filled_whole [] ys w u = tt
  filled_whole (x ∷ xs) ys w u = each_append _ (filled_at h ys x) (filled h xs ys) (item x (λ c e. w c (or_left _ _ e)))
      (filled_whole xs ys (λ c e. w c (or_right (says_claim x c) _ e)) u)
    where
      item : (x : Holding) → Within (says_claim x) S → Each (WholeTemplate (plug_string_summary h S Y)) (filled_at h ys x)
      item (claim (root m)) v = tt
      item (claim (edge m k l)) v = tt
      item (claim (Proposal.string m k s)) v = tt
      item (claim (gap_from g n)) v = tt
      item (claim (attribute_gap_from k n)) v = go (eqb k h) refl
        where
          go : (b : Bool) → eqb k h ≡ b → Each (WholeTemplate (plug_string_summary h S Y)) (cond b (fillings n k ys) [])
          go true q = fillings_whole n k q (v (attribute_gap_from k n) (says_itself (attribute_gap_from k n))) ys u
          go false q = tt
      item (any_at m k) v = tt
      item (one_string s) v = tt
      item Proposal.any_string v = tt

unfoldable pub fill_items : ℕ → List Holding → List Holding → List Holding
unfolding filled
fill_items h xs ys = xs ++ filled h xs ys

pub fill_lists : (h : ℕ) (xs ys : List Holding) → ListsTemplate (plug_string_summary h (held says_claim xs) (held says_string ys)) (fill_items h xs ys)
unfolding fill_items
fill_lists h xs ys = record {
  complete = complete;
  whole = each_append _ xs (filled h xs ys) (whole_more (held says_claim xs) (plug_string_summary h (held says_claim xs) (held says_string ys))
      (λ n k t e. or_left _ (eqb k h && held says_claim xs (attribute_gap_from k n) && held says_string ys t) e) xs (λ c e. e))
      (filled_whole h (held says_claim xs) (held says_string ys) xs ys (λ c e. e) (λ t e. e));
}
  where
    of_first : (c : Claim) → held says_claim xs c ≡ true → held says_claim (xs ++ filled h xs ys) c ≡ true
    of_first c e = held_before says_claim c xs (filled h xs ys) e

    complete : Within (plug_string_summary h (held says_claim xs) (held says_string ys)) (held says_claim (xs ++ filled h xs ys))
    complete (root n) e = of_first (root n) e
    complete (edge n g m) e = of_first (edge n g m) e
    complete (Proposal.string n k s) e =
        elim (or_cases (held says_claim xs (Proposal.string n k s)) (eqb k h && held says_claim xs (attribute_gap_from k n) && held says_string ys s) e) [
          | inl q ↦ of_first (Proposal.string n k s) q
          | inr q ↦ held_behind says_claim (Proposal.string n k s) xs (filled h xs ys) (strung (eqb-true k h (and_left _ _ (and_left _ _ q)))
              (and_right (eqb k h) _ (and_left _ _ q)) (and_right (eqb k h && held says_claim xs (attribute_gap_from k n)) _ q))
        ]
      where
        strung : k ≡ h → held says_claim xs (attribute_gap_from k n) ≡ true → held says_string ys s ≡ true → held says_claim (filled h xs ys) (Proposal.string n k s) ≡ true
        strung q o f = rw q (origin_filled n h s xs ys (rw q at o) f)
    complete (gap_from g n) e = of_first (gap_from g n) e
    complete (attribute_gap_from k n) e = go (eqb k h) e
      where
        go : (b : Bool) → cond b false (held says_claim xs (attribute_gap_from k n)) ≡ true → held says_claim (xs ++ filled h xs ys) (attribute_gap_from k n) ≡ true
        go true q = absurd (false≢true q)
        go false q = of_first (attribute_gap_from k n) q
