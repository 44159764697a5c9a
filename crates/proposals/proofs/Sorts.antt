-- The sorts of items of a template variable: what a graph has of each, and how many bytes they are at most.
use Prim.Native.Nat.{ℕ, ◌+◌, ◌≤◌, ◌<◌}
use mathlib.Core.Path.{◌≡◌, refl}
use native.Mathlib.Omega.{arith}
use lib.ListN.{length, length-append}
use Rattle.sets.specs.Sets.{member}
use Rattle.summaries.specs.Summaries.{Summary}
use Rattle.proposals.specs.declared.Prefix.{Prefix}
use Rattle.proposals.specs.declared.Sort.{Sort}
use Rattle.proposals.specs.declared.Sort.TheVariants.{Roots, Edges, Listed, Any, Origins, AttributeOrigins}
use Rattle.proposals.specs.Inner.Bytes.{prefix_bytes, members, firsts, seconds, limit, prefix_of, is_held, MayStand, MayBe, place_bytes, row_bytes, sort_bytes, template_bytes}
use Rattle.proposals.proofs.Each.{each_most}
use Rattle.proposals.proofs.Members.{members_most, members_same}

-- ---- the sorts one after another

module _ (templates : ℕ) (S : Summary) where
  abbrev sort_length : Sort → ℕ
  sort_length sort = length (sort_bytes templates S sort)

  abbrev sort_lengths : ℕ
  sort_lengths = sort_length Roots + sort_length Edges + sort_length Listed + sort_length Any + sort_length Origins + sort_length AttributeOrigins

  pub template_length : length (template_bytes templates S) ≡ sort_lengths
  unfolding template_bytes
  template_length = rw (length-append, length-append, length-append, length-append, length-append) refl

-- ---- what a program with at most 31 templates has

module _ (templates : ℕ) (few : templates < 32) where
  pub may_stand : (sort : Sort) (a b : ℕ) → a < firsts templates sort → b < seconds sort → MayStand sort a b
  may_stand Roots a b l m = tt
  may_stand Edges a b l m = (omega arith, m)
  may_stand Listed a b l m = (omega arith, m)
  may_stand Any a b l m = omega arith
  may_stand Origins a b l m = l
  may_stand AttributeOrigins a b l m = l

  pub may_be : (sort : Sort) (k : ℕ) → k < limit templates sort → MayBe sort k
  may_be Roots k l = tt
  may_be Edges k l = tt
  may_be Listed k l = tt
  may_be Any k l = omega arith
  may_be Origins k l = tt
  may_be AttributeOrigins k l = tt

  pub limit_few : (sort : Sort) → limit templates sort ≤ 64
  limit_few Roots = omega arith
  limit_few Edges = omega arith
  limit_few Listed = omega arith
  limit_few Any = omega arith
  limit_few Origins = omega arith
  limit_few AttributeOrigins = omega arith

  pub firsts_few : (sort : Sort) → firsts templates sort ≤ 32
  firsts_few Roots = omega arith
  firsts_few Edges = omega arith
  firsts_few Listed = omega arith
  firsts_few Any = omega arith
  firsts_few Origins = omega arith
  firsts_few AttributeOrigins = omega arith

  pub seconds_few : (sort : Sort) → seconds sort ≤ 8
  seconds_few Roots = omega arith
  seconds_few Edges = omega arith
  seconds_few Listed = omega arith
  seconds_few Any = omega arith
  seconds_few Origins = omega arith
  seconds_few AttributeOrigins = omega arith

  prefix_few : (sort : Sort) (a b : ℕ) → length (prefix_bytes (prefix_of sort a b)) ≤ 3
  prefix_few Roots a b = omega arith
  prefix_few Edges a b = omega arith
  prefix_few Listed a b = omega arith
  prefix_few Any a b = omega arith
  prefix_few Origins a b = omega arith
  prefix_few AttributeOrigins a b = omega arith

  -- The members of a set that has just what is held are the items there.
  pub place_is : (S : Summary) (sort : Sort) (a b r : ℕ) → ((k : ℕ) → MayBe sort k → member r k ≡ is_held S sort a b k)
      → (before : Prefix) → before ≡ prefix_of sort a b → (below : ℕ) → below ≡ limit templates sort → members (prefix_bytes before) below (member r) ≡ place_bytes templates S sort a b
  place_is S sort a b r same before e below f =
      rw (e, f) (members_same (prefix_bytes (prefix_of sort a b)) (limit templates sort) (member r) (is_held S sort a b) (λ k l. same k (may_be sort k l)))

  -- ---- at most so many bytes

  module _ (S : Summary) where
    place_most : (sort : Sort) (a b : ℕ) → length (place_bytes templates S sort a b) ≤ 256
    place_most sort a b = members_most (prefix_bytes (prefix_of sort a b)) (is_held S sort a b) (limit templates sort) (limit_few sort) (prefix_few sort a b)

    pub row_most : (sort : Sort) (a : ℕ) → length (row_bytes templates S sort a) ≤ 2048
    unfolding row_bytes
    row_most sort a = each_most (place_bytes templates S sort a) (seconds sort) 8 256 (seconds_few sort) (λ b l. place_most sort a b)

    pub sort_most : (sort : Sort) → length (sort_bytes templates S sort) ≤ 65536
    unfolding sort_bytes
    sort_most sort = each_most (row_bytes templates S sort) (firsts templates sort) 32 2048 (firsts_few sort) (λ a l. row_most sort a)

    pub sorts_most : sort_lengths templates S ≤ 393216
    sorts_most = omega (arith, sort_most Roots, sort_most Edges, sort_most Listed, sort_most Any, sort_most Origins, sort_most AttributeOrigins)

    pub template_most : length (template_bytes templates S) ≤ 393216
    template_most = omega (arith, template_length templates S, sorts_most)
