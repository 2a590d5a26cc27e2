use Rattle.std.proofs.Common.{◌∙◌, sym}
use Rattle.script_grammar.specs.Tree.{view_method}
use Rattle.swift_plain.specs.Signatures.{is_returning}
use Rattle.plain_parts.proofs.Lists.{any_mapped}
use Rattle.swift_plain.proofs.signature.returns_by.Goals as goal

pub returns : goal.returns
returns c = c.any_returning.ensures ∙ sym (any_mapped (is_returning c.args.name.now.text.items) view_method c.args.methods.now)
