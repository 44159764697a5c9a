-- The statements are kept, and a stray next point is the earliest.
use borrow.Author.Rules.{rules}
use Rattle.programs.proofs.Whole.{refused_whole, few, all_whole, strays_whole}
use Rattle.programs.proofs.read_program.Goals as goal

pub returns-in_err-points : goal.returns-in_err-points
returns-in_err-points c = search (rules, refused_whole _ _ _ _ _ c.read_statements.ensures c.in_err-points.was)

pub strayed-requires : goal.strayed-requires
strayed-requires c = few _ _ _ _ _ _ c.read_statements.ensures c.in_ok-points.was

pub returns-in-Some : goal.returns-in-Some
returns-in-Some c = strays_whole _ _ _ _ _ _ c.read_statements.ensures c.in_ok-points.was _ c.strayed.ensures _ c.in-Some.is

pub returns : goal.returns
returns c = all_whole _ _ _ _ _ _ c.read_statements.ensures c.in_ok-points.was _ c.strayed.ensures c.in_default.is
