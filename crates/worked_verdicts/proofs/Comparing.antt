-- Whether a summary lies within an entry, decided item by item of a list that says all that the summary holds. "Any string" is within
-- an entry that says it too: a string that no item of the entry names is held by no other item.
use Prim.Native.Nat.{ℕ, suc, ◌+◌, ◌≤◌}
use native.Mathlib.Omega.{arith}
use mathlib.Core.Path.{◌≡◌, refl, sym, ap₂, ◌∙◌}
use mathlib.Core.List.{List, [], ◌∷◌, ◌++◌}
use mathlib.Core.Bool.{Bool, true, false, cond, not, ◌&&◌, ◌||◌, and-false, false≢true}
use mathlib.Core.Logic.{inl, inr}
use lib.Dec.{eqb}
use borrow.Author.Tests.{ne_eqb, eqb-true}
use Rattle.summaries.specs.Proposal.{Claim, root, edge, string, gap_from, attribute_gap_from, Holding, claim, any_at, one_string, any_string}
use Rattle.summaries.specs.Summaries.{Summary, Strings, Within, same_code, says_claim, says_string, held}
use Rattle.entries.specs.Inner.Passing.{Decides}
use Rattle.entries.proofs.Tests.{decides}
use Rattle.sets.proofs.Booleans.{or_left, or_right, or_cases, and_both, and_left, and_right, implied, implies}
use Rattle.entries.proofs.Claims.{says_alone, says_any}

-- Some item of a list passes a test.
abbrev pub some_item : (Holding → Bool) → List Holding → Bool
some_item p xs = held (λ x u. p x) xs (tt {0})

-- A number that is above every string of the items.
abbrev above_of : Holding → ℕ
above_of (claim (root n)) = 0
above_of (claim (edge n g m)) = 0
above_of (claim (string n h s)) = suc s
above_of (claim (gap_from g n)) = 0
above_of (claim (attribute_gap_from h n)) = 0
above_of (any_at n h) = 0
above_of (one_string s) = suc s
above_of any_string = 0

above : List Holding → ℕ
above [] = 0
above (x ∷ xs) = above_of x + above xs

-- A family of what may be held, a string each, and the items that say all of it.
module _ {A : Type 0} (says : Holding → A → Bool) (at : ℕ → A) (is_any : Holding → Bool)
    (whole : (x : Holding) (t : ℕ) → is_any x ≡ true → says x (at t) ≡ true)
    (others : (x : Holding) (t : ℕ) → above_of x ≤ t → says x (at t) ≡ is_any x) where
  any_holds : (xs : List Holding) → some_item is_any xs ≡ true → (t : ℕ) → held says xs (at t) ≡ true
  unfolding held
  any_holds [] e t = e
  any_holds (x ∷ xs) e t = elim (or_cases (is_any x) (some_item is_any xs) e) [
    | inl h ↦ or_left _ _ (whole x t h)
    | inr h ↦ or_right (says x (at t)) _ (any_holds xs h t)
  ]

  only_any : (xs : List Holding) (t : ℕ) → above xs ≤ t → held says xs (at t) ≡ some_item is_any xs
  unfolding held above
  only_any [] t h = refl
  only_any (x ∷ xs) t h = ap₂ ◌||◌ (others x t (omega arith)) (only_any xs t (omega arith))

-- Any string at a template's attribute gap.
abbrev is_any_at : ℕ → ℕ → Holding → Bool
is_any_at n h (claim c) = false
is_any_at n h (any_at m k) = eqb n m && eqb h k
is_any_at n h (one_string s) = false
is_any_at n h any_string = false

module _ (n h : ℕ) where
  any_at_whole : (x : Holding) (t : ℕ) → is_any_at n h x ≡ true → says_claim x (string n h t) ≡ true
  any_at_whole (claim c) t e = absurd (false≢true e)
  any_at_whole (any_at m k) t e = e
  any_at_whole (one_string s) t e = e
  any_at_whole any_string t e = e

  any_at_others : (x : Holding) (t : ℕ) → above_of x ≤ t → says_claim x (string n h t) ≡ is_any_at n h x
  unfolding same_code
  any_at_others (claim (root m)) t l = refl
  any_at_others (claim (edge m g k)) t l = refl
  any_at_others (claim (string m k s)) t l = rw (ne_eqb s t (λ e. omega arith), and-false (eqb k h)) (and-false (eqb m n))
  any_at_others (claim (gap_from g m)) t l = refl
  any_at_others (claim (attribute_gap_from k m)) t l = refl
  any_at_others (any_at m k) t l = refl
  any_at_others (one_string s) t l = refl
  any_at_others any_string t l = refl

-- Any string of a string variable.
abbrev is_any_string : Holding → Bool
is_any_string (claim c) = false
is_any_string (any_at m k) = false
is_any_string (one_string s) = false
is_any_string any_string = true

any_string_whole : (x : Holding) (t : ℕ) → is_any_string x ≡ true → says_string x t ≡ true
any_string_whole (claim c) t e = e
any_string_whole (any_at m k) t e = e
any_string_whole (one_string s) t e = absurd (false≢true e)
any_string_whole any_string t e = e

any_string_others : (x : Holding) (t : ℕ) → above_of x ≤ t → says_string x t ≡ is_any_string x
any_string_others (claim c) t l = refl
any_string_others (any_at m k) t l = refl
any_string_others (one_string s) t l = ne_eqb t s (λ e. omega arith)
any_string_others any_string t l = refl

-- All items of a list pass into an entry.
unfoldable pub all_pass : {A : Type 0} → ((A → Bool) → List Holding → Holding → Bool) → (A → Bool) → List Holding → List Holding → Bool
all_pass passes F [] ys = true
all_pass passes F (x ∷ xs) ys = passes F ys x && all_pass passes F xs ys

-- Every item of a list is as P says.
abbrev pub Each : (Holding → Type 0) → List Holding → Type 0
Each P [] = Unit {0}
Each P (x ∷ xs) = P x × Each P xs

pub each_append : (P : Holding → Type 0) (xs ys : List Holding) → Each P xs → Each P ys → Each P (xs ++ ys)
each_append P [] ys e f = f
each_append P (x ∷ xs) ys e f = (e.0, each_append P xs ys e.1 f)

pub each_map : (P Q : Holding → Type 0) → ((x : Holding) → P x → Q x) → (xs : List Holding) → Each P xs → Each Q xs
each_map P Q h [] e = tt
each_map P Q h (x ∷ xs) e = (h x e.0, each_map P Q h xs e.1)

module _ {A : Type 0} (says : Holding → A → Bool) (Whole : (A → Bool) → Holding → Type 0) where
  -- A list of items that says all that F holds. Its claims are tested one by one, so they may be more; its items of any string are not.
  pub record Lists (F : A → Bool) (xs : List Holding) : Type 0 where
    pub complete : Within F (held says xs)
    pub whole : Each (Whole F) xs

  pub either_lists : (b : Bool) (F H : A → Bool) (xs ys : List Holding) → Lists F xs → Lists H ys → Lists (cond b F H) (cond b xs ys)
  either_lists true F H xs ys l m = l
  either_lists false F H xs ys l m = m

  module _ (item : (F : A → Bool) (x : Holding) → Within (says x) F → Whole F x) where
    whole_within : (F : A → Bool) (xs : List Holding) → Within (held says xs) F → Each (Whole F) xs
    unfolding held
    whole_within F [] w = tt
    whole_within F (x ∷ xs) w = (item F x (λ a e. w a (or_left _ _ e)), whole_within F xs (λ a e. w a (or_right (says x a) _ e)))

    -- An entry lists itself.
    itself_lists : (xs : List Holding) → Lists (held says xs) xs
    itself_lists xs = record { complete = λ a e. e; whole = whole_within (held says xs) xs (λ a e. e) }

  -- Where one item of a list passes as it should, all of them decide whether F is within an entry.
  module _ (passes : (A → Bool) → List Holding → Holding → Bool)
      (sound : (F : A → Bool) (ys : List Holding) (x : Holding) → passes F ys x ≡ true → (a : A) → F a ≡ true → says x a ≡ true → held says ys a ≡ true)
      (back : (F : A → Bool) (ys : List Holding) (x : Holding) → Whole F x → Within F (held says ys) → passes F ys x ≡ true)
      (F : A → Bool) (ys : List Holding) where
    all_sound : (xs : List Holding) → all_pass passes F xs ys ≡ true → (a : A) → F a ≡ true → held says xs a ≡ true → held says ys a ≡ true
    unfolding all_pass held
    all_sound [] e a f h = absurd (false≢true h)
    all_sound (x ∷ xs) e a f h = elim (or_cases (says x a) (held says xs a) h) [
      | inl k ↦ sound F ys x (and_left _ _ e) a f k
      | inr k ↦ all_sound xs (and_right (passes F ys x) _ e) a f k
    ]

    all_back : (xs : List Holding) → Each (Whole F) xs → Within F (held says ys) → all_pass passes F xs ys ≡ true
    unfolding all_pass
    all_back [] e w = refl
    all_back (x ∷ xs) e w = and_both _ _ (back F ys x e.0 w) (all_back xs e.1 w)

    all_decide : (xs : List Holding) → Lists F xs → Decides (all_pass passes F xs ys) (Within F (held says ys))
    all_decide xs L = decides _ (λ e a f. all_sound xs e a f (L.complete a f)) (all_back xs L.whole)

-- Template variables.
abbrev passes_template : Summary → List Holding → Holding → Bool
passes_template F ys (claim c) = not (F c) || held says_claim ys c
passes_template F ys (any_at n h) = some_item (is_any_at n h) ys
passes_template F ys (one_string s) = true
passes_template F ys any_string = true

abbrev pub WholeTemplate : Summary → Holding → Type 0
WholeTemplate F (claim c) = Unit {0}
WholeTemplate F (any_at n h) = (t : ℕ) → F (string n h t) ≡ true
WholeTemplate F (one_string s) = Unit {0}
WholeTemplate F any_string = Unit {0}

template_sound : (F : Summary) (ys : List Holding) (x : Holding) → passes_template F ys x ≡ true → (c : Claim) → F c ≡ true → says_claim x c ≡ true → held says_claim ys c ≡ true
template_sound F ys (claim d) e c f h = let q : d ≡ c = says_alone d c h in implied (F c) _ (rw q at e) f
template_sound F ys (any_at n h) e (root m) f k = absurd (false≢true k)
template_sound F ys (any_at n h) e (edge m g l) f k = absurd (false≢true k)
template_sound F ys (any_at n h) e (string m l s) f k =
    let q : m ≡ n = eqb-true m n (and_left _ _ k) in
    let r : l ≡ h = eqb-true l h (and_right (eqb m n) _ k) in
    rw (q, r) (any_holds says_claim (string n h) (is_any_at n h) (any_at_whole n h) (any_at_others n h) ys e s)
template_sound F ys (any_at n h) e (gap_from g m) f k = absurd (false≢true k)
template_sound F ys (any_at n h) e (attribute_gap_from l m) f k = absurd (false≢true k)
template_sound F ys (one_string s) e c f h = absurd (false≢true h)
template_sound F ys any_string e c f h = absurd (false≢true h)

template_back : (F : Summary) (ys : List Holding) (x : Holding) → WholeTemplate F x → Within F (held says_claim ys) → passes_template F ys x ≡ true
template_back F ys (claim c) h w = implies (F c) _ (w c)
template_back F ys (any_at n h) k w =
    sym (only_any says_claim (string n h) (is_any_at n h) (any_at_whole n h) (any_at_others n h) ys (above ys) (omega arith)) ∙ w (string n h (above ys)) (k (above ys))
template_back F ys (one_string s) h w = refl
template_back F ys any_string h w = refl

template_item : (F : Summary) (x : Holding) → Within (says_claim x) F → WholeTemplate F x
template_item F (claim c) v = tt
template_item F (any_at n h) v = λ t. v (string n h t) (says_any n h t)
template_item F (one_string s) v = tt
template_item F any_string v = tt

abbrev pub ListsTemplate : Summary → List Holding → Type 0
ListsTemplate = Lists says_claim WholeTemplate

pub template_whole : (F : Summary) (xs : List Holding) → Within (held says_claim xs) F → Each (WholeTemplate F) xs
template_whole = whole_within says_claim WholeTemplate template_item

pub entry_lists : (xs : List Holding) → ListsTemplate (held says_claim xs) xs
entry_lists = itself_lists says_claim WholeTemplate template_item

unfoldable pub template_within : Summary → List Holding → List Holding → Bool
unfolding all_pass held
template_within = all_pass passes_template

pub template_within_lem : (F : Summary) (xs ys : List Holding) → ListsTemplate F xs → Decides (template_within F xs ys) (Within F (held says_claim ys))
unfolding template_within
template_within_lem F xs ys L = all_decide says_claim WholeTemplate passes_template template_sound template_back F ys xs L

-- String variables.
abbrev passes_string : Strings → List Holding → Holding → Bool
passes_string F ys (claim c) = true
passes_string F ys (any_at n h) = true
passes_string F ys (one_string s) = not (F s) || held says_string ys s
passes_string F ys any_string = some_item is_any_string ys

abbrev pub WholeString : Strings → Holding → Type 0
WholeString F (claim c) = Unit {0}
WholeString F (any_at n h) = Unit {0}
WholeString F (one_string s) = Unit {0}
WholeString F any_string = (t : ℕ) → F t ≡ true

string_sound : (F : Strings) (ys : List Holding) (x : Holding) → passes_string F ys x ≡ true → (t : ℕ) → F t ≡ true → says_string x t ≡ true → held says_string ys t ≡ true
string_sound F ys (claim d) e t f h = absurd (false≢true h)
string_sound F ys (any_at n k) e t f h = absurd (false≢true h)
string_sound F ys (one_string s) e t f h = let q : t ≡ s = eqb-true t s h in rw q (implied (F s) _ e (rw q at f))
string_sound F ys any_string e t f h = any_holds says_string (λ u. u) is_any_string any_string_whole any_string_others ys e t

string_back : (F : Strings) (ys : List Holding) (x : Holding) → WholeString F x → Within F (held says_string ys) → passes_string F ys x ≡ true
string_back F ys (claim c) h w = refl
string_back F ys (any_at n k) h w = refl
string_back F ys (one_string s) h w = implies (F s) _ (w s)
string_back F ys any_string h w =
    sym (only_any says_string (λ u. u) is_any_string any_string_whole any_string_others ys (above ys) (omega arith)) ∙ w (above ys) (h (above ys))

string_item : (F : Strings) (x : Holding) → Within (says_string x) F → WholeString F x
string_item F (claim c) v = tt
string_item F (any_at n h) v = tt
string_item F (one_string s) v = tt
string_item F any_string v = λ t. v t refl

abbrev pub ListsString : Strings → List Holding → Type 0
ListsString = Lists says_string WholeString

pub strings_list : (xs : List Holding) → ListsString (held says_string xs) xs
strings_list = itself_lists says_string WholeString string_item

unfoldable pub string_within : Strings → List Holding → List Holding → Bool
unfolding all_pass held
string_within = all_pass passes_string

pub string_within_lem : (F : Strings) (xs ys : List Holding) → ListsString F xs → Decides (string_within F xs ys) (Within F (held says_string ys))
unfolding string_within
string_within_lem F xs ys L = all_decide says_string WholeString passes_string string_sound string_back F ys xs L
