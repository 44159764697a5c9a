-- In each arm the variables are low, and the sets add up.
use Rattle.programs.proofs.Naming.{fits_as, names_1, names_2, names_3, copy_names, set_names, copy_string_names, set_string_names, any_string_names, plug_names, plug_string_names, show_names, show_framed_names}
use Rattle.programs.proofs.act_names.Goals as goal

pub with_template-requires : goal.with_template-requires
with_template-requires c = (fits_as _ _ c.in-CopyTemplate.is c.requires).1

pub with_template-requires-in-CopyTemplate : goal.with_template-requires-in-CopyTemplate
with_template-requires-in-CopyTemplate c = (fits_as _ _ c.in-CopyTemplate.is c.requires).0

pub with_template-requires-in-SetTemplate : goal.with_template-requires-in-SetTemplate
with_template-requires-in-SetTemplate c = fits_as _ _ c.in-SetTemplate.is c.requires

pub with_string-requires : goal.with_string-requires
with_string-requires c = (fits_as _ _ c.in-CopyString.is c.requires).1

pub with_string-requires-in-CopyString : goal.with_string-requires-in-CopyString
with_string-requires-in-CopyString c = (fits_as _ _ c.in-CopyString.is c.requires).0

pub with_string-requires-in-SetString : goal.with_string-requires-in-SetString
with_string-requires-in-SetString c = (fits_as _ _ c.in-SetString.is c.requires).0

pub with_string-requires-in-AnyString : goal.with_string-requires-in-AnyString
with_string-requires-in-AnyString c = fits_as _ _ c.in-AnyString.is c.requires

pub with_template-requires-in-Plug : goal.with_template-requires-in-Plug
with_template-requires-in-Plug c = (fits_as _ _ c.in-Plug.is c.requires).3

pub with_template-requires-in-Plug-2 : goal.with_template-requires-in-Plug-2
with_template-requires-in-Plug-2 c = (fits_as _ _ c.in-Plug.is c.requires).1

pub with_template-requires-in-Plug-3 : goal.with_template-requires-in-Plug-3
with_template-requires-in-Plug-3 c = (fits_as _ _ c.in-Plug.is c.requires).0

pub with_string-requires-in-PlugString : goal.with_string-requires-in-PlugString
with_string-requires-in-PlugString c = (fits_as _ _ c.in-PlugString.is c.requires).3

pub with_template-requires-in-PlugString : goal.with_template-requires-in-PlugString
with_template-requires-in-PlugString c = (fits_as _ _ c.in-PlugString.is c.requires).1

pub with_template-requires-in-PlugString-2 : goal.with_template-requires-in-PlugString-2
with_template-requires-in-PlugString-2 c = (fits_as _ _ c.in-PlugString.is c.requires).0

pub with_template-requires-in-Show : goal.with_template-requires-in-Show
with_template-requires-in-Show c = fits_as _ _ c.in-Show.is c.requires

pub with_template-requires-in-ShowFramed : goal.with_template-requires-in-ShowFramed
with_template-requires-in-ShowFramed c = (fits_as _ _ c.in-ShowFramed.is c.requires).0

pub returns-in-CopyTemplate : goal.returns-in-CopyTemplate
returns-in-CopyTemplate c = rw c.in-CopyTemplate.is (names_2 _ _ _ _ _ c.with_template-in-CopyTemplate.ensures c.with_template.ensures (copy_names _ _))

pub returns-in-SetTemplate : goal.returns-in-SetTemplate
returns-in-SetTemplate c = rw c.in-SetTemplate.is (names_1 _ _ _ c.with_template-in-SetTemplate.ensures (set_names c.in-SetTemplate.x c.in-SetTemplate.field-1))

pub returns-in-CopyString : goal.returns-in-CopyString
returns-in-CopyString c = rw c.in-CopyString.is (names_2 _ _ _ _ _ c.with_string-in-CopyString.ensures c.with_string.ensures (copy_string_names _ _))

pub returns-in-SetString : goal.returns-in-SetString
returns-in-SetString c = rw c.in-SetString.is (names_1 _ _ _ c.with_string-in-SetString.ensures (set_string_names c.in-SetString.y c.in-SetString.field-1))

pub returns-in-AnyString : goal.returns-in-AnyString
returns-in-AnyString c = rw c.in-AnyString.is (names_1 _ _ _ c.with_string-in-AnyString.ensures (any_string_names _))

pub returns-in-Plug : goal.returns-in-Plug
returns-in-Plug c = rw c.in-Plug.is (names_3 _ _ _ _ _ _ _ c.with_template-in-Plug-3.ensures c.with_template-in-Plug-2.ensures c.with_template-in-Plug.ensures (plug_names c.in-Plug.x c.in-Plug.y c.in-Plug.field-2 c.in-Plug.z))

pub returns-in-PlugString : goal.returns-in-PlugString
returns-in-PlugString c = rw c.in-PlugString.is (names_3 _ _ _ _ _ _ _ c.with_template-in-PlugString-2.ensures c.with_template-in-PlugString.ensures c.with_string-in-PlugString.ensures (plug_string_names c.in-PlugString.x c.in-PlugString.y c.in-PlugString.field-2 c.in-PlugString.z))

pub returns-in-Show : goal.returns-in-Show
returns-in-Show c = rw c.in-Show.is (names_1 _ _ _ c.with_template-in-Show.ensures (show_names _))

pub returns-in-ShowFramed : goal.returns-in-ShowFramed
returns-in-ShowFramed c = rw c.in-ShowFramed.is (names_1 _ _ _ c.with_template-in-ShowFramed.ensures (show_framed_names c.in-ShowFramed.x c.in-ShowFramed.field-1 c.in-ShowFramed.field-2))
