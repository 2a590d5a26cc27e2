use Rattle.std.proofs.Common.{◌∙◌, sym}
use Rattle.script_grammar.specs.Tree.{view_decl}
use Rattle.plain_parts.proofs.Lists.{any_mapped}
use Rattle.plain_forms.specs.Forms.{is_root_of}
use Rattle.plain_forms.proofs.walk.is_root.Goals as goal

pub returns : goal.returns
returns c = c.any_root.ensures ∙ sym (any_mapped (is_root_of c.args.name.now.text.items) view_decl c.args.place.decls.now)
