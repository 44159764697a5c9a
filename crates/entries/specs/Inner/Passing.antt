-- What of an entry passes into the value that a statement makes. A copy passes all. A plug passes the value that is plugged but for the
-- origins of its gap, which become edges to the roots plugged in, and the value plugged in but for its roots. One definition has all
-- of these; the laws say that the transfer functions of the statements are its instances.
use Rattle.std.specs.Prelude.{ℕ, Bool, true, false, not, ◌&&◌, ◌||◌, eqb, Option, None, Some}
use Rattle.sets.specs.Sets.{member}
use Rattle.summaries.specs.Proposal.{Claim, root, edge, string, gap_from, attribute_gap_from}
use Rattle.summaries.specs.Summaries.{Summary}
use Rattle.strings.specs.declared.Values.{Values}
use Rattle.strings.specs.Inner.Promises.{holds_value}
use Rattle.entries.specs.declared.Plugged.{Plugged}
use Rattle.entries.specs.declared.Filled.{Filled}
use Rattle.entries.specs.declared.Passing.{Passing}

-- Whether a gap is plugged, and whether a template is a root of what is plugged in.
abbrev pub plugs : Option Plugged → ℕ → Bool
plugs None k = false
plugs (Some p) k = eqb k p.gap

abbrev pub plugged : Option Plugged → ℕ → Bool
plugged None m = false
plugged (Some p) m = member p.roots m

-- Whether an attribute gap is filled, and whether a string is one that it is filled with.
abbrev pub fills : Option Filled → ℕ → Bool
fills None k = false
fills (Some f) k = eqb k f.gap

abbrev pub filled : Option Filled → ℕ → Bool
filled None s = false
filled (Some f) s = holds_value f.strings s

abbrev pub stays : Passing → Claim → Bool
stays how (root n) = how.roots
stays how (edge n g m) = true
stays how (string n h s) = true
stays how (gap_from g n) = not (plugs how.plug g)
stays how (attribute_gap_from h n) = not (fills how.fill h)

-- Edges in place of the origins of the gap, strings in place of those of the attribute gap.
abbrev pub added : Passing → Summary → Claim → Bool
added how S (root n) = false
added how S (edge n g m) = plugs how.plug g && (S (gap_from g n) && plugged how.plug m)
added how S (string n h s) = fills how.fill h && (S (attribute_gap_from h n) && filled how.fill s)
added how S (gap_from g n) = false
added how S (attribute_gap_from h n) = false

abbrev pub passed : Passing → Summary → Summary
passed how S c = (stays how c && S c) || added how S c

-- The ways of passing by one part: roots pass or not, a gap is plugged or none, an attribute gap is filled or none.
abbrev pub by_roots : Bool → Passing
by_roots roots = record { roots = roots; plug = None; fill = None }

abbrev pub by_plug : Option Plugged → Passing
by_plug plug = record { roots = true; plug = plug; fill = None }

abbrev pub by_fill : Option Filled → Passing
by_fill fill = record { roots = true; plug = None; fill = fill }

-- All of an entry; all but its roots; a plug into gap g of a value with these roots; a plug of strings into attribute gap h.
abbrev pub wholly : Passing
wholly = by_roots true

abbrev pub without_roots : Passing
without_roots = by_roots false

abbrev pub plugging : ℕ → ℕ → Passing
plugging g roots = by_plug (Some (record { gap = g; roots = roots }))

abbrev pub filling : ℕ → Values → Passing
filling h strings = by_fill (Some (record { gap = h; strings = strings }))

-- By the answer, a proposition holds or does not.
abbrev pub Decides : Bool → Type 0 → Type 0
Decides true P = P
Decides false P = P → ⊥
