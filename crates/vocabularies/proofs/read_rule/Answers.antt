-- The lists and the clauses are read one behind the other; the first refusal is the rule's.
use mathlib.Core.Path.{refl}
use mathlib.Core.Logic.{inl, inr}
use Rattle.std.proofs.Common.{rules}
use Rattle.vocabularies.proofs.NameLists.{attribute_single, content_single}
use Rattle.vocabularies.proofs.Rules.{rule_contents, rule_clauses, rule_whole}
use Rattle.vocabularies.proofs.read_rule.Goals as goal

pub read_names-requires : goal.read_names-requires
read_names-requires c = (inl refl, attribute_single)

pub read_names-requires-2 : goal.read_names-requires-2
read_names-requires-2 c = (inr refl, content_single)

pub returns-in_err-contents : goal.returns-in_err-contents
returns-in_err-contents c = search (rules, rule_contents _ _ _ _ c.in_ok-attributes.ensures _ c.in_err-contents.ensures)

pub returns-in_err-end : goal.returns-in_err-end
returns-in_err-end c = search (rules, rule_clauses _ _ _ _ c.in_ok-attributes.ensures _ _ c.in_ok-contents.ensures _ c.in_err-end.ensures)

pub returns : goal.returns
returns c = rule_whole _ _ _ _ c.in_ok-attributes.ensures _ _ c.in_ok-contents.ensures _ c.in_ok-end.ensures
