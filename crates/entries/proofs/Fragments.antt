-- What is held of a template that is just loaded, against the graph of an entry.
use Prim.Native.Nat.{ℕ}
use mathlib.Core.Path.{◌≡◌, refl, sym, ◌∙◌}
use mathlib.Core.List.{List}
use mathlib.Core.Bool.{true}
use borrow.Author.Tests.{eq-eqb}
use Rattle.sets.specs.Sets.{member}
use Rattle.pages.specs.Items.{Items}
use Rattle.pages.specs.Inner.Gaps.{GapsAre}
use Rattle.summaries.specs.Proposal.{root}
use Rattle.summaries.specs.Summaries.{Summary, Within, fragment}
use Rattle.graphs.specs.Inner.Graphs.{holds, Keeps}
use Rattle.entries.specs.Inner.Entries.{origin_of}

-- It is a root, and an origin of each of its gaps.
abbrev pub Origin : List ℕ → ℕ → ℕ → ℕ → Type 0
Origin graph gaps n i = member gaps i ≡ true → holds graph (origin_of i n) ≡ true

module _ (graph : List ℕ) (t gaps : ℕ) (φ : Items) (R : Summary) (g : GapsAre gaps φ) (k : Keeps graph R) where
  module _ (w : Within (fragment t φ) R) where
    pub fragment_root : holds graph (root t) ≡ true
    fragment_root = sym (k.same (root t) tt) ∙ w (root t) (eq-eqb t t refl)
