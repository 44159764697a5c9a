-- What it means that bytes are read exactly (document 01, "A job, command by command"; "Verdicts", 1 and 3, Judge a page): they are what
-- was read, written out, which is in range; they are not too long, and nothing stands behind.
use Rattle.std.specs.Prelude.{ℕ, ◌+◌, ◌≤◌, ◌≡◌, List, ◌++◌, length, drop}
use Rattle.vocabularies.specs.Vocabulary.{Vocabulary}
use Rattle.pages.specs.Items.{Items}
use Rattle.round_trip.specs.Written.{marked}
use Rattle.round_trip.specs.InRange.{PageInRange}

-- `w`, a part of a job written out, stands in the bytes s from an offset up to another.
pub record Span (s : List ℕ) (at : ℕ) (w : List ℕ) (end : ℕ) : Type 0 where
  pub is : drop at s ≡ w ++ drop end s
  pub ends : end ≡ at + length w

-- The bytes s, read up to `end`, are exactly those of a: a vocabulary (`VocabularyInRange`), a page (`MarkedPage`) or a job (`JobInRange`).
pub record Exactly {A : Type 0} (written : A → List ℕ) (InRange : A → Type 0) (s : List ℕ) (a : A) (end : ℕ) : Type 0 where
  pub bytes : s ≡ written a
  pub is_in_range : InRange a
  pub short : length s ≤ 65535
  pub nothing_behind : end ≡ length s

-- A page in range with each mark at the offset of the element's `23`.
pub record MarkedPage (D : Vocabulary) (φ : Items) : Type 0 where
  pub page : PageInRange D φ
  pub marks : marked 0 φ ≡ φ
