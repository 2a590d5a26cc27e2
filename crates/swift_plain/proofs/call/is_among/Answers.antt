use Rattle.std.proofs.Common.{◌∙◌, sym}
use Rattle.script_grammar.specs.Tree.{text_of}
use Rattle.swift_plain.specs.Calls.{is_named}
use Rattle.plain_parts.proofs.Lists.{any_mapped}
use Rattle.swift_plain.proofs.call.is_among.Goals as goal

pub returns : goal.returns
returns c = c.any_param.ensures ∙ sym (any_mapped (is_named c.args.name.now.text.items) text_of c.args.params.now)
