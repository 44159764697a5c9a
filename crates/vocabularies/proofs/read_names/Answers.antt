use Rattle.vocabularies.proofs.Parts.{command_turns}
use Rattle.vocabularies.proofs.NameLists.{names_start, names_end, names_refused, names_fall, names_more, name_low, next_name_fits}
use Rattle.vocabularies.proofs.read_names.Goals as goal

pub loop-context-init : goal.loop-context-init
loop-context-init c = names_start _ _ _

pub returns-then-not-is_allowed : goal.returns-then-not-is_allowed
returns-then-not-is_allowed c = search names_end

pub returns-in_default : goal.returns-in_default
returns-in_default c = search names_refused

pub returns-then-name-least : goal.returns-then-name-least
returns-then-name-least c = search names_fall

pub with-set-requires : goal.with-set-requires
with-set-requires c = search name_low

pub overflow_add-least : goal.overflow_add-least
overflow_add-least c = record { fits = search next_name_fits }

pub loop-context-smaller : goal.loop-context-smaller
loop-context-smaller c = search command_turns

pub loop-context-preserved : goal.loop-context-preserved
loop-context-preserved c = search names_more
