use Rattle.std.proofs.Common.{◌∙◌, sym}
use Rattle.script_grammar.specs.Tree.{view_decl}
use Rattle.plain_parts.specs.Names.{has_field}
use Rattle.plain_parts.proofs.Lists.{any_mapped}
use Rattle.plain_parts.proofs.names.is_field_of.Goals as goal

pub returns : goal.returns
returns c = c.any_has_field.ensures ∙ sym (any_mapped (has_field c.args.actor.now.text.items c.args.name.now.text.items) view_decl c.args.decls.now)
