use Rattle.std.proofs.Common.{◌∙◌, sym}
use Rattle.script_grammar.specs.Tree.{view_method}
use Rattle.plain_parts.specs.Flow.{view_sought}
use Rattle.swift_plain.specs.Signatures.{method_has}
use Rattle.plain_parts.proofs.Lists.{any_mapped}
use Rattle.swift_plain.proofs.signature.methods_have.Goals as goal

pub returns : goal.returns
returns c = c.any_method_has.ensures ∙ sym (any_mapped (method_has (view_sought c.args.sought)) view_method c.args.methods.now)
