-- Document 02, F-2: "A new item `29`, blank text, is allowed where `21` is", and nowhere else.
use mathlib.Core.Path.{◌≡◌, refl}
use Rattle.commands.specs.declared.Context.{Context}
use Rattle.commands.specs.declared.Context.TheVariants.{Rules, Attributes, Contents, Formulas, Templates, TemplateItems, TemplateAttributes, PageItems, PageAttributes, FirstStatement, Statements, Heads, TemplateHoldings, StringHoldings}
use Rattle.commands.specs.Commands.{allowed}

pub blank_as_text : (x : Context) → allowed x 0x29 ≡ allowed x 0x21
unfolding allowed
blank_as_text Rules = refl
blank_as_text Attributes = refl
blank_as_text Contents = refl
blank_as_text Formulas = refl
blank_as_text Templates = refl
blank_as_text TemplateItems = refl
blank_as_text TemplateAttributes = refl
blank_as_text PageItems = refl
blank_as_text PageAttributes = refl
blank_as_text FirstStatement = refl
blank_as_text Statements = refl
blank_as_text Heads = refl
blank_as_text TemplateHoldings = refl
blank_as_text StringHoldings = refl
