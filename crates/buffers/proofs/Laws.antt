-- A buffer of 65,536 bytes tells as much of an input as the input itself: all of it, or that it is too long.
use Prim.Native.Nat.{ℕ, ◌≤◌, ◌<◌}
use native.Mathlib.Omega.{arith}
use native.Mathlib.Decide.{dec_le}
use native.Mathlib.Nat.{min-eq_left, min-eq_right}
use mathlib.Core.Path.{◌≡◌, sym, ap, ◌∙◌}
use mathlib.Core.List.{List}
use lib.ListN.{length, take}
use lib.Seq.{take_all, length-take-le}
use borrow.Author.Tests.{lt-leb}
use Rattle.verdicts.specs.declared.Verdict.{Verdict}
use Rattle.verdicts.specs.declared.Numbers.{Numbers}
use Rattle.verdicts.specs.Printed.{numbers_of}
use Rattle.verdicts.specs.TheVerdict.{TheVerdict}
use Rattle.vocabularies.specs.Vocabulary.{Vocabulary}
use Rattle.vocabularies.specs.VocabularyReading.{most_bytes, vocabulary_slice}
use Rattle.pages.specs.Items.{Items}
use Rattle.pages.specs.ItemReading.{page_slice}
use Rattle.pages.specs.PageVerdict.{Readable, PageVerdict, unreadable_vocabulary, unreadable_page, not_root, wrong_element, accepted}
use Rattle.jobs.specs.Job.{job}
use Rattle.jobs.specs.JobVerdict.{JobVerdict, unreadable, readable}
use Rattle.buffers.specs.Inputs.{ReadInto}

-- A function that gives the same of all inputs that are too long.
abbrev pub SameOfLong : {X : Type 0} → (List ℕ → X) → Type 0
SameOfLong f = (s s' : List ℕ) → most_bytes < length s → most_bytes < length s' → f s ≡ f s'

-- It gives the same of the buffer's bytes and of the input.
pub read_same : {X : Type 0} (f : List ℕ → X) → SameOfLong f → (buffer : List ℕ) (n : ℕ) (input : List ℕ) → length buffer ≡ 65536
    → ReadInto buffer n input → f (take n buffer) ≡ f input
read_same f long buffer n input whole_buffer r = go (dec_le (length input) most_bytes)
  where
    go : Dec (length input ≤ most_bytes) → f (take n buffer) ≡ f input
    go (yes short) =
        let e : length input ≤ length buffer = omega arith in
        let all : n ≡ length input = r.count ∙ min-eq_left e in
        ap f (r.bytes ∙ take_all n input (omega arith))
    go (no more) =
        let e : length buffer ≤ length input = omega arith in
        let full : n ≡ length buffer = r.count ∙ min-eq_right e in
        let l : length (take n buffer) ≡ n = length-take-le n buffer (omega arith) in
        long (take n buffer) input (omega arith) (omega arith)

job_too_long : SameOfLong job
unfolding job
job_too_long s s' l l' = rw (lt-leb (length s) most_bytes l, lt-leb (length s') most_bytes l')

vocabulary_too_long : SameOfLong vocabulary_slice
unfolding vocabulary_slice
vocabulary_too_long s s' l l' = rw (lt-leb (length s) most_bytes l, lt-leb (length s') most_bytes l')

page_too_long : (D : Vocabulary) → SameOfLong (page_slice D)
unfolding page_slice
page_too_long D s s' l l' = rw (lt-leb (length s) most_bytes l, lt-leb (length s') most_bytes l')

-- A relation of verdicts that says of one input what it says of another.
abbrev pub Same : {A : Type 0} → (A → Type 0) → (A → Type 0) → Type 0
Same {A} P Q = ((v : A) → P v → Q v) × ((v : A) → Q v → P v)

pub the_same : {A : Type 0} {P Q : A → Type 0} {v : A} → Same P Q → TheVerdict P v → TheVerdict Q v
the_same {v} s t = record { is = s.0 v t.is; only = λ v' h. t.only v' (s.1 v' h) }

-- A job's verdict is one of what is read.
of_job : {s s' : List ℕ} → job s ≡ job s' → (v : Numbers) → JobVerdict s v → JobVerdict s' v
of_job e v (unreadable r) = unreadable (sym e ∙ r)
of_job e v (readable r h) = readable (sym e ∙ r) h

pub job_numbers : (buffer : List ℕ) (n : ℕ) → length buffer ≡ 65536 → (r : Verdict) → TheVerdict (JobVerdict (take n buffer)) (numbers_of r)
    → (v : Numbers) → v ≡ numbers_of r → (input : List ℕ) → ReadInto buffer n input → TheVerdict (JobVerdict input) v
job_numbers buffer n h r t v e input i =
    let q = read_same job job_too_long buffer n input h i in
    rw e (the_same (of_job q, of_job (sym q)) t)

-- A page's verdict is one of what is read of both slices.
module _ {v v' p p' : List ℕ} (q : vocabulary_slice v ≡ vocabulary_slice v') (k : (D : Vocabulary) → page_slice D p ≡ page_slice D p') where
  of_slices : {D : Vocabulary} {page : Items} → Readable v p D page → Readable v' p' D page
  of_slices {D} R = record {
    vocabulary_end = R.vocabulary_end;
    page_end = R.page_end;
    vocabulary_reads = sym q ∙ R.vocabulary_reads;
    page_reads = sym (k D) ∙ R.page_reads;
  }

  of_page : (n : Numbers) → PageVerdict v p n → PageVerdict v' p' n
  of_page n (unreadable_vocabulary e) = unreadable_vocabulary (sym q ∙ e)
  of_page n (unreadable_page {D} e e') = unreadable_page (sym q ∙ e) (sym (k D) ∙ e')
  of_page n (not_root R h) = not_root (of_slices R) h
  of_page n (wrong_element R a w l) = wrong_element (of_slices R) a w l
  of_page n (accepted R r) = accepted (of_slices R) r

pub page_numbers : (vs : List ℕ) (n : ℕ) (ps : List ℕ) (m : ℕ) → length vs ≡ 65536 → length ps ≡ 65536
    → (r : Verdict) → TheVerdict (PageVerdict (take n vs) (take m ps)) (numbers_of r) → (w : Numbers) → w ≡ numbers_of r
    → (v p : List ℕ) → ReadInto vs n v → ReadInto ps m p → TheVerdict (PageVerdict v p) w
page_numbers vs n ps m h h' r t w e v p i j =
    let q = read_same vocabulary_slice vocabulary_too_long vs n v h i in
    let k : (D : Vocabulary) → page_slice D (take m ps) ≡ page_slice D p = λ D. read_same (page_slice D) (page_too_long D) ps m p h' j in
    rw e (the_same (of_page q k, of_page (sym q) (λ D. sym (k D))) t)
