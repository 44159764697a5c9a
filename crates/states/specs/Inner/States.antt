-- The entries of all points as words of a work area: for each point the graphs of its four template variables, then of each of its four
-- string variables the named strings and, as the lowest bit of a word, whether it takes any.
use Rattle.std.specs.Prelude.{ℕ, ◌+◌, ◌*◌, List, Bool, true, ◌&&◌, ◌||◌, get_or, take, drop, ltb}
use Rattle.sets.specs.Sets.{member}
use Rattle.summaries.specs.Proposal.{Claim, root, edge, string, gap_from, attribute_gap_from}
use Rattle.summaries.specs.Summaries.{Environment}
use Rattle.graphs.specs.Inner.Graphs.{holds}

-- The words of a point, and where each of its entries begins.
abbrev pub point_words : ℕ
point_words = 2184

abbrev pub graph_place : ℕ → ℕ → ℕ
graph_place p x = p * point_words + x * 544

abbrev pub strings_place : ℕ → ℕ → ℕ
strings_place p y = p * point_words + 2176 + y * 2

abbrev pub graph_words : List ℕ → ℕ → ℕ → List ℕ
graph_words work p x = take 544 (drop (graph_place p x) work)

-- The claims whose word is no other's, as a test.
abbrev pub in_words : Claim → Bool
in_words (root n) = true
in_words (edge n g m) = ltb n 32 && ltb g 8
in_words (string n h s) = ltb n 32 && ltb h 8
in_words (gap_from g n) = ltb g 8
in_words (attribute_gap_from h n) = ltb h 8

abbrev pub string_in : List ℕ → ℕ → ℕ → ℕ → Bool
string_in work p y s = member (get_or work (strings_place p y + 1) 0) 0 || member (get_or work (strings_place p y) 0) s

-- The entries that a work area keeps of the points of a program with this many of them; nothing at any other point and variable.
unfoldable pub entries_in : ℕ → List ℕ → ℕ → Environment
entries_in points work p = record {
  template = λ x c. (ltb p points && ltb x 4) && (in_words c && holds (graph_words work p x) c);
  string = λ y s. (ltb p points && ltb y 4) && string_in work p y s;
}
