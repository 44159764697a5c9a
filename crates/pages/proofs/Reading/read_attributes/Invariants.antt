-- The names seen are those of a list, and what is read from the position on goes on what was read before it.
use Prim.Native.Nat.{ℕ, ◌-◌}
use mathlib.Core.Path.{◌≡◌}
use mathlib.Core.List.{List, []}
use lib.ListN.{length}
use Rattle.sets.specs.Sets.{member}
use Rattle.std.specs.Prelude.{Result}
use Rattle.commands.specs.declared.Position.{Position}
use Rattle.commands.specs.declared.ReadError.{ReadError}
use Rattle.vocabularies.specs.Vocabulary.{is_in}
use Rattle.pages.specs.declared.Kind.{Kind}
use Rattle.pages.specs.ItemReading.{attribute_context}
use Rattle.pages.specs.Inner.Promises.{AttributesRead}
use Rattle.pages.proofs.Reading.read_attributes.Given as goal

abbrev pub invariant-loop-context : goal.invariant-loop-context
invariant-loop-context l = (before : List ℕ)
    × ((a : ℕ) → member l.seen a ≡ is_in a before)
    × ((k : Kind) → l.context ≡ attribute_context k → (r : Result Position ReadError) → AttributesRead k l.self.s.now before l.p.at r → AttributesRead k l.self.s.now [] l.initial.p.at r)

abbrev pub decreases-loop-context : goal.decreases-loop-context
decreases-loop-context l = length l.self.s.now - l.p.at
