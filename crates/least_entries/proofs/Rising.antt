-- The proposal of entries is in range: heads and items rise, and all numbers are in range.
use Prim.Native.Nat.{ℕ, suc, ◌+◌, ◌*◌, ◌-◌, ◌≤◌, ◌<◌}
use native.Mathlib.Omega.{arith}
use mathlib.Core.Path.{◌≡◌, refl, subst}
use mathlib.Core.List.{List, [], ◌∷◌, ◌++◌}
use mathlib.Core.Bool.{Bool, true, false, cond, not, ◌&&◌}
use lib.Dec.{ltb}
use borrow.Author.Tests.{ltb-true, ltb-false}
use Rattle.commands.specs.Commands.{strings}
use Rattle.programs.specs.Program.{Variable, template_variable, string_variable}
use Rattle.summaries.specs.Proposal.{root, edge, string, gap_from, attribute_gap_from, Holding, claim, any_at, one_string, any_string, Head}
use Rattle.summaries.specs.ProposalReading.{variable_of}
use Rattle.summaries.specs.Summaries.{Summary, Strings, Environment}
use Rattle.summaries.specs.ProposalOf.{each, where_held, unlisted, root_items, edge_items, string_items, any_items, gap_items, attribute_gap_items, template_items, variable_strings, items_of, headed, proposal_of}
use Rattle.round_trip.specs.WrittenJob.{written_holding, written_variable}
use Rattle.round_trip.specs.InRange.{Bytes}
use Rattle.round_trip.specs.JobInRange.{Lexicographic, RisingBy, HoldingInRange, HoldingsInRange, VariableInRange, HeadInRange, HeadsInRange, head_key, ProposalInRange}
use Rattle.round_trip.proofs.JobBytes.{holding_bytes, variable_small}
use Rattle.round_trip.proofs.Order.{number, before, pair_before, First, rising_more}
use Rattle.least_entries.proofs.Each.{Rises, ends, next, rises_wider, rises_append, rises_each}

-- What holds of the variables by their numbers 0 to 7.
pub each_variable : (P : ℕ → Variable → Type 0) → ((x : ℕ) → x < 4 → P x (template_variable x)) → ((y : ℕ) → y < 4 → P (4 + y) (string_variable y))
    → (v : ℕ) → v < 8 → P v (variable_of v)
each_variable P t s v l = by_test (ltb v 4) refl
  where
    by_test : (b : Bool) → ltb v 4 ≡ b → P v (cond b (template_variable v) (string_variable (v - 4)))
    by_test true e = t v (ltb-true v 4 e)
    by_test false e =
        let low = ltb-false v 4 e in
        let same : 4 + (v - 4) ≡ v = omega arith in
        subst (λ (n : ℕ). P n (string_variable (v - 4))) same (s (v - 4) (omega arith))

-- The place of an item in the order, as one number.
abbrev rank : Holding → ℕ
rank y = number 4 (written_holding y)

module _ (count : ℕ) (v : Variable) where
  abbrev ItemsRise : ℕ → ℕ → List Holding → Type 0
  ItemsRise = Rises rank (HoldingInRange count v)

  -- One item, or none, within a stretch of the order.
  where_rises : (low high : ℕ) (b : Bool) (y : Holding) → low ≤ rank y → rank y < high → HoldingInRange count v y → ItemsRise low high (where_held b y)
  where_rises low high true y l h i = next l i (ends h)
  where_rises low high false y l h i = let e : low ≤ high = omega arith in ends e

  each_rises : (low step n high : ℕ) (f : ℕ → List Holding) → low + n * step ≤ high
      → ((k : ℕ) → k < n → ItemsRise (low + k * step) (low + suc k * step) (f k)) → ItemsRise low high (each n f)
  each_rises low step n high f h r = let e : low ≤ low = omega arith in rises_wider rank (HoldingInRange count v) e h (rises_each rank (HoldingInRange count v) low step n f r)

  -- Items of a command with two numbers, and with three.
  pairs_rise : (code n m step : ℕ) (b : ℕ → ℕ → Bool) (y : ℕ → ℕ → Holding) → n ≤ 32 → m * step ≤ 65536
      → ((i j : ℕ) → rank (y i j) ≡ code * 16777216 + i * 65536 + j * step) → 1 ≤ step
      → ((i j : ℕ) → i < n → j < m → HoldingInRange count v (y i j))
      → ItemsRise (code * 16777216) (suc code * 16777216) (each n λ i. each m λ j. where_held (b i j) (y i j))
  pairs_rise code n m step b y few small is one i =
      each_rises (code * 16777216) 65536 n (suc code * 16777216) _ (omega arith) λ k l.
      each_rises (code * 16777216 + k * 65536) step m (code * 16777216 + suc k * 65536) _ (omega arith) λ j l'.
      where_rises _ _ (b k j) (y k j) (omega (arith, is k j)) (omega (arith, is k j)) (i k j l l')

  triples_rise : (code n m l : ℕ) (b : ℕ → ℕ → ℕ → Bool) (y : ℕ → ℕ → ℕ → Holding) → n ≤ 32 → m ≤ 8 → l ≤ 256
      → ((i j k : ℕ) → rank (y i j k) ≡ code * 16777216 + i * 65536 + j * 256 + k)
      → ((i j k : ℕ) → i < n → j < m → k < l → HoldingInRange count v (y i j k))
      → ItemsRise (code * 16777216) (suc code * 16777216) (each n λ i. each m λ j. each l λ k. where_held (b i j k) (y i j k))
  triples_rise code n m l b y few gaps small is i =
      each_rises (code * 16777216) 65536 n (suc code * 16777216) _ (omega arith) λ p lp.
      each_rises (code * 16777216 + p * 65536) 256 m (code * 16777216 + suc p * 65536) _ (omega arith) λ q lq.
      each_rises (code * 16777216 + p * 65536 + q * 256) 1 l (code * 16777216 + p * 65536 + suc q * 256) _ (omega arith) λ r lr.
      where_rises _ _ (b p q r) (y p q r) (omega (arith, is p q r)) (omega (arith, is p q r)) (i p q r lp lq lr)

  -- What rises so is in range, and rises by its bytes.
  items_in_range : {low high : ℕ} {ys : List Holding} → ItemsRise low high ys → HoldingsInRange count v ys
  unfolding HoldingsInRange
  items_in_range (ends l) = tt
  items_in_range (next l i r) = (i, items_in_range r)

  bytes_rise : count ≤ 31 → {low high : ℕ} {ys : List Holding} → ItemsRise low high ys → RisingBy written_holding ys
  unfolding RisingBy
  bytes_rise c (ends l) = tt
  bytes_rise c (next {a = y} {rest = ys} l i r) = rising_more written_holding y ys (first ys r) (bytes_rise c r)
    where
      bytes : (h : Holding) → HoldingInRange count v h → Bytes (written_holding h)
      bytes = holding_bytes count 0 c (omega arith) v

      first : {high : ℕ} (rest : List Holding) → ItemsRise (suc (rank y)) high rest → First (λ y'. Lexicographic (written_holding y) (written_holding y')) rest
      first [] q = tt
      first (y' ∷ rest) (next l' i' q) = before 4 (written_holding y) (written_holding y') (bytes y i) (bytes y' i') l'

-- The items of a template variable: each command has its stretch of the order.
module _ (count x : ℕ) (c : count ≤ 31) (S : Summary) where
  abbrev ClaimsRise : ℕ → List Holding → Type 0
  ClaimsRise code = ItemsRise count (template_variable x) (code * 16777216) (suc code * 16777216)

  roots_rise : ClaimsRise 0x41 (root_items count S)
  roots_rise =
      each_rises count (template_variable x) (0x41 * 16777216) 65536 (suc count) (0x42 * 16777216) _ (omega arith) λ t l.
      where_rises count (template_variable x) _ _ (S (root t)) (claim (root t)) (omega arith) (omega arith) (omega arith)

  edges_rise : ClaimsRise 0x42 (edge_items count S)
  edges_rise =
      triples_rise count (template_variable x) 0x42 (suc count) 8 (suc count) (λ n g t. S (edge n g t)) (λ n g t. claim (edge n g t))
      (omega arith) (omega arith) (omega arith) (λ n g t. omega arith) (λ n g t p q r. omega arith)

  strings_listed_rise : ClaimsRise 0x43 (string_items count S)
  strings_listed_rise =
      triples_rise count (template_variable x) 0x43 (suc count) 8 strings (λ n h s. S (string n h s) && not (S (string n h unlisted))) (λ n h s. claim (string n h s))
      (omega arith) (omega arith) (omega arith) (λ n h s. omega arith) (λ n h s p q r. omega arith)

  any_rise : ClaimsRise 0x44 (any_items count S)
  any_rise =
      pairs_rise count (template_variable x) 0x44 (suc count) 8 256 (λ n h. S (string n h unlisted)) any_at
      (omega arith) (omega arith) (λ n h. omega arith) (omega arith) (λ n h p q. omega arith)

  gaps_rise : ClaimsRise 0x45 (gap_items count S)
  gaps_rise =
      pairs_rise count (template_variable x) 0x45 8 (suc count) 256 (λ g n. S (gap_from g n)) (λ g n. claim (gap_from g n))
      (omega arith) (omega arith) (λ g n. omega arith) (omega arith) (λ g n p q. omega arith)

  attribute_gaps_rise : ClaimsRise 0x46 (attribute_gap_items count S)
  attribute_gaps_rise =
      pairs_rise count (template_variable x) 0x46 8 (suc count) 256 (λ h n. S (attribute_gap_from h n)) (λ h n. claim (attribute_gap_from h n))
      (omega arith) (omega arith) (λ h n. omega arith) (omega arith) (λ h n p q. omega arith)

  claims_rise : ItemsRise count (template_variable x) (0x41 * 16777216) (0x47 * 16777216) (template_items count S)
  unfolding template_items
  claims_rise = append (append (append (append (append roots_rise edges_rise) strings_listed_rise) any_rise) gaps_rise) attribute_gaps_rise
    where
      append : {low middle high : ℕ} {xs ys : List Holding} → ItemsRise count (template_variable x) low middle xs → ItemsRise count (template_variable x) middle high ys
          → ItemsRise count (template_variable x) low high (xs ++ ys)
      append = rises_append rank (HoldingInRange count (template_variable x))

-- The items of a string variable.
strings_rise : (count y : ℕ) (Y : Strings) → ItemsRise count (string_variable y) (0x47 * 16777216) (0x49 * 16777216) (variable_strings Y)
unfolding variable_strings
strings_rise count y Y =
    rises_append rank (HoldingInRange count (string_variable y))
    (each_rises count (string_variable y) (0x47 * 16777216) 65536 strings (0x48 * 16777216) _ (omega arith) λ s l.
    where_rises count (string_variable y) _ _ (Y s && not (Y unlisted)) (one_string s) (omega arith) (omega arith) l)
    (where_rises count (string_variable y) (0x48 * 16777216) (0x49 * 16777216) (Y unlisted) any_string (omega arith) (omega arith) tt)

-- The place of a head in the order of heads, as one number.
abbrev head_rank : Head → ℕ
head_rank x = x.point * 8 + written_variable x.variable

variable_fits : (v : ℕ) → v < 8 → VariableInRange (variable_of v) × (written_variable (variable_of v) ≡ v)
variable_fits = each_variable (λ n w. VariableInRange w × (written_variable w ≡ n)) (λ x l. (omega arith, refl)) (λ y l. (omega arith, refl))

module _ (count points : ℕ) (c : count ≤ 31) where
  items_fit : (E : Environment) (w : Variable) → HoldingsInRange count w (items_of count E w) × RisingBy written_holding (items_of count E w)
  items_fit E (template_variable x) =
      let r = claims_rise count x c (E.template x) in
      (items_in_range count (template_variable x) r, bytes_rise count (template_variable x) c r)
  items_fit E (string_variable y) =
      let r = strings_rise count y (E.string y) in
      (items_in_range count (string_variable y) r, bytes_rise count (string_variable y) c r)

  head_rises : (p v : ℕ) → p < points → v < 8 → (ys : List Holding) → HoldingsInRange count (variable_of v) ys → RisingBy written_holding ys
      → Rises head_rank (HeadInRange count points) (p * 8 + v) (p * 8 + suc v) (headed p (variable_of v) ys)
  head_rises p v l h [] i r = let e : p * 8 + v ≤ p * 8 + suc v = omega arith in ends e
  head_rises p v l h (y ∷ ys) i r =
      let fits = variable_fits v h in
      let low : p * 8 + v ≤ p * 8 + written_variable (variable_of v) = omega (arith, fits.1) in
      let high : p * 8 + written_variable (variable_of v) < p * 8 + suc v = omega (arith, fits.1) in
      next low (record { point = l; variable = fits.0; holdings = i; rising = r }) (ends high)

  heads_in_range : {low high : ℕ} {xs : List Head} → Rises head_rank (HeadInRange count points) low high xs → HeadsInRange count points xs
  unfolding HeadsInRange
  heads_in_range (ends l) = tt
  heads_in_range (next l i r) = (i, heads_in_range r)

  keys_rise : {low high : ℕ} {xs : List Head} → Rises head_rank (HeadInRange count points) low high xs → RisingBy head_key xs
  unfolding RisingBy
  keys_rise (ends l) = tt
  keys_rise (next {a = x} {rest = xs} l i r) = rising_more head_key x xs (first xs r) (keys_rise r)
    where
      first : {high : ℕ} (rest : List Head) → Rises head_rank (HeadInRange count points) (suc (head_rank x)) high rest → First (λ x'. Lexicographic (head_key x) (head_key x')) rest
      first [] q = tt
      first (x' ∷ rest) (next l' i' q) =
          pair_before x.point (written_variable x.variable) x'.point (written_variable x'.variable) (variable_small x'.variable i'.variable) l'

  pub proposal_in_range : (E : ℕ → Environment) → ProposalInRange count points (proposal_of count points E)
  unfolding proposal_of
  proposal_in_range E = record { heads = heads_in_range all; rising = keys_rise all }
    where
      of_point : (p : ℕ) → p < points → Rises head_rank (HeadInRange count points) (0 + p * 8) (0 + suc p * 8) (each 8 λ v. headed p (variable_of v) (items_of count (E p) (variable_of v)))
      of_point p l =
          let r : Rises head_rank (HeadInRange count points) (p * 8) (p * 8 + 8 * 1) (each 8 λ v. headed p (variable_of v) (items_of count (E p) (variable_of v))) =
          rises_each head_rank (HeadInRange count points) (p * 8) 1 8 _ λ v h.
          let fit = items_fit (E p) (variable_of v) in
          let low : p * 8 + v * 1 ≤ p * 8 + v = omega arith in
          let high : p * 8 + suc v ≤ p * 8 + suc v * 1 = omega arith in
          rises_wider head_rank (HeadInRange count points) low high (head_rises p v l h (items_of count (E p) (variable_of v)) fit.0 fit.1) in
          let low : 0 + p * 8 ≤ p * 8 = omega arith in
          let high : p * 8 + 8 * 1 ≤ 0 + suc p * 8 = omega arith in
          rises_wider head_rank (HeadInRange count points) low high r

      all : Rises head_rank (HeadInRange count points) 0 (0 + points * 8) (proposal_of count points E)
      all = rises_each head_rank (HeadInRange count points) 0 8 points _ of_point
