use Rattle.std.proofs.Common.{◌∙◌, sym}
use Rattle.script_grammar.specs.Tree.{view_decl}
use Rattle.plain_parts.specs.Names.{is_instance_of}
use Rattle.plain_parts.proofs.Lists.{any_mapped}
use Rattle.plain_parts.proofs.names.is_instance.Goals as goal

pub returns : goal.returns
returns c = c.any_instance.ensures ∙ sym (any_mapped (is_instance_of c.args.name.now.text.items) view_decl c.args.decls.now)
