-- By the command that the step hands back.
use Rattle.vocabularies.proofs.Walks.{conj_stands, disj_stands, neg_stands, truth_stands, attr_stands, content_stands, order_stands, value_stands, none_past, none_stands}
use Rattle.vocabularies.proofs.formula_here.Goals as goal

pub returns-in_default : goal.returns-in_default
returns-in_default c = search none_past

pub returns-in-16 : goal.returns-in-16
returns-in-16 c = search conj_stands

pub returns-in-17 : goal.returns-in-17
returns-in-17 c = search disj_stands

pub returns-in-18 : goal.returns-in-18
returns-in-18 c = search neg_stands

pub returns-in-19 : goal.returns-in-19
returns-in-19 c = search truth_stands

pub returns-in-20 : goal.returns-in-20
returns-in-20 c = search attr_stands

pub returns-in-21 : goal.returns-in-21
returns-in-21 c = search content_stands

pub returns-in-22 : goal.returns-in-22
returns-in-22 c = search order_stands

pub returns-in-23 : goal.returns-in-23
returns-in-23 c = search value_stands

pub returns-in_default-code : goal.returns-in_default-code
returns-in_default-code c = search none_stands
