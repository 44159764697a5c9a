use Rattle.strings.specs.Inner.Promises.{holds_value}
use Rattle.summaries.specs.Summaries.{says_string}
use Rattle.commands.specs.declared.Context.TheVariants.{StringHoldings}
use Rattle.summaries.proofs.Steps.{strings_end}
use Rattle.entries.proofs.Gathering.{gather_string, gather_ends}
use Rattle.entries.proofs.strings_of.Goals as goal

pub loop-item-preserved : goal.loop-item-preserved
loop-item-preserved c = gather_string c.args.s.now _ _ c.loop-item.found c.loop-item.invariant _ c.string_here.ensures.is _ _ c.in-Some.is c.said_by.result c.values_union-found.result c.said_by.ensures c.values_union-found.ensures

pub returns : goal.returns
returns c = λ xs l. gather_ends says_string (λ t. t) StringHoldings c.args.s.now _ _ (holds_value c.loop-item.found) c.loop-item.invariant (λ ys m. strings_end c.args.s.now _ ys m _ c.string_here.ensures.is c.in_default.is) xs l
