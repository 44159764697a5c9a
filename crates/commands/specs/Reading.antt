-- What reading a part of the bytes gives: the part as a tree with the offset after it, or the first command that cannot be
-- read, with its offset (document 01, "Verdicts"). The definitions of reading recurse on a number, the fuel; `unfinished` says
-- that it ran out, which the law of each part excludes for the fuel that is given.
use Rattle.std.specs.Prelude.{ℕ, ◌+◌, List, Bool, true, false, length}
use Rattle.verdicts.specs.declared.Form.{Form}
use Rattle.commands.specs.declared.Context.{Context}
use Rattle.commands.specs.declared.Decoded.{Decoded}
use Rattle.commands.specs.declared.Decoded.TheVariants.{Moved, Refused}
use Rattle.commands.specs.Commands.{command}

pub data Read (A : Type 0) : Type 0 where
  whole : A → ℕ → Read A
  refused : Form → ℕ → Read A
  unfinished : Read A

module _ {A B : Type 0} where
  -- What is read next is read from where the part before it ended.
  abbrev pub and_then : Read A → (A → ℕ → Read B) → Read B
  and_then (whole a next) k = k a next
  and_then (refused f at) k = refused f at
  and_then unfinished k = unfinished

module _ {A : Type 0} where
  -- A command that may stand there is taken, and what follows is told its first byte and the offset after it.
  abbrev pub on_decoded : Decoded → (ℕ → ℕ → Read A) → Read A
  on_decoded (Moved code next) k = k code next.at
  on_decoded (Refused f at) k = refused f at

  abbrev pub on_command : Context → List ℕ → ℕ → (ℕ → ℕ → Read A) → Read A
  on_command x s at k = on_decoded (command x s at) k

  -- A choice whose sides are not worked out before the test is: reading would not end otherwise.
  abbrev pub when : Bool → (Unit {0} → Read A) → (Unit {0} → Read A) → Read A
  when true yes' no' = yes' tt
  when false yes' no' = no' tt

-- Enough for any reading of these bytes: every step but the one from a list of items to its next item moves on by a byte.
abbrev pub enough : List ℕ → ℕ
enough s = length s + length s + 2
