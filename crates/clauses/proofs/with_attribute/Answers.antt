-- Only a fact about an attribute has a name.
use Rattle.clauses.proofs.AttributeFlags.{about_attribute, about_content, about_pair, about_value}
use Rattle.clauses.proofs.with_attribute.Goals as goal

pub returns-in-Carried : goal.returns-in-Carried
returns-in-Carried c = about_attribute _ _ _ _ c.in-Carried.is c.with_name.ensures

pub returns-in-Present : goal.returns-in-Present
returns-in-Present c = about_content _ _ _ c.in-Present.is

pub returns-in-Ordered : goal.returns-in-Ordered
returns-in-Ordered c = about_pair _ _ _ _ c.in-Ordered.is

pub returns-in-Valued : goal.returns-in-Valued
returns-in-Valued c = about_value _ _ _ _ _ c.in-Valued.is c.with_name-in-Valued.ensures
