use Rattle.std.proofs.Common.{◌∙◌, sym}
use Rattle.std.specs.Prelude.{bytes_eq}
use Rattle.script_grammar.specs.Tree.{view_field}
use Rattle.plain_parts.proofs.Lists.{any_mapped}
use Rattle.plain_parts.proofs.names.is_field.Goals as goal

pub returns : goal.returns
returns c = c.any_field.ensures ∙ sym (any_mapped (λ f. bytes_eq f.name c.args.name.now.text.items) view_field c.args.fields.now)
