-- Summaries of template variables as words: each item has a word and a bit of its own. This is how code keeps an entry that others
-- are compared with, and the closed graph of a show. No crate above this one knows which word an item has.
use Rattle.std.specs.Prelude.{ℕ, ◌+◌, ◌*◌, ◌^◌, ◌<◌, ◌≡◌, List, Bool, true, false, ◌||◌, length, get_or}
use Rattle.sets.specs.Sets.{member}
use Rattle.summaries.specs.Proposal.{Claim, root, edge, string, gap_from, attribute_gap_from, Holding, claim, any_at, one_string, any_string}
use Rattle.summaries.specs.Summaries.{Summary, Within, says_claim}

-- Word 0 has the roots; 1 to 8 the origins of each gap, 9 to 16 those of each attribute gap; 17 to 24, for each attribute gap, the
-- templates at which it takes any string; then for each template and gap the templates of its edges, and for each template and
-- attribute gap its strings.
abbrev pub claim_word : Claim → ℕ
claim_word (root n) = 0
claim_word (edge n g m) = 32 + n * 8 + g
claim_word (string n h s) = 288 + n * 8 + h
claim_word (gap_from g n) = 1 + g
claim_word (attribute_gap_from h n) = 9 + h

abbrev pub claim_bit : Claim → ℕ
claim_bit (root n) = n
claim_bit (edge n g m) = m
claim_bit (string n h s) = s
claim_bit (gap_from g n) = n
claim_bit (attribute_gap_from h n) = n

-- Items of a string variable have no word.
abbrev pub holding_word : Holding → ℕ
holding_word (claim c) = claim_word c
holding_word (any_at n h) = 17 + h
holding_word (one_string s) = 0
holding_word any_string = 0

abbrev pub holding_bit : Holding → ℕ
holding_bit (claim c) = claim_bit c
holding_bit (any_at n h) = n
holding_bit (one_string s) = 0
holding_bit any_string = 0

abbrev pub is_kept : List ℕ → Holding → Bool
is_kept graph x = member (get_or graph (holding_word x) 0) (holding_bit x)

-- What a graph says: of a string, it is kept, or any string is at its place.
abbrev pub holds : List ℕ → Claim → Bool
holds graph (root n) = is_kept graph (claim (root n))
holds graph (edge n g m) = is_kept graph (claim (edge n g m))
holds graph (string n h s) = is_kept graph (any_at n h) || is_kept graph (claim (string n h s))
holds graph (gap_from g n) = is_kept graph (claim (gap_from g n))
holds graph (attribute_gap_from h n) = is_kept graph (claim (attribute_gap_from h n))

-- The claims whose word is no other's.
abbrev pub InWords : Claim → Type 0
InWords (root n) = Unit {0}
InWords (edge n g m) = (n < 32) × (g < 8)
InWords (string n h s) = (n < 32) × (h < 8)
InWords (gap_from g n) = g < 8
InWords (attribute_gap_from h n) = h < 8

-- The graph holds just what a summary holds.
pub record Keeps (graph : List ℕ) (R : Summary) : Type 0 where
  pub room : length graph ≡ 544
  pub same : (c : Claim) → InWords c → R c ≡ holds graph c
  pub narrow : (i : ℕ) → get_or graph i 0 < 2 ^ 64

-- What has a word is held by both graphs or by none.
abbrev pub SameGraph : List ℕ → List ℕ → Type 0
SameGraph a b = (c : Claim) → InWords c → holds a c ≡ holds b c

-- The summary that holds nothing, and one with what an item says.
abbrev pub nothing : Summary
nothing c = false

abbrev pub adding : Holding → Summary → Summary
adding y R c = says_claim y c || R c

-- The graph keeps a part of a summary, in which there is nothing that an item says.
pub record Forgotten (y : Holding) (R : Summary) (graph : List ℕ) : Type 0 where
  pub left : Summary
  pub keeps : Keeps graph left
  pub within : Within left R
  pub gone : (c : Claim) → says_claim y c ≡ true → left c ≡ false
