use Rattle.std.proofs.Common.{◌∙◌, sym}
use Rattle.script_grammar.specs.Tree.{view_decl}
use Rattle.plain_parts.specs.Flow.{view_sought}
use Rattle.swift_plain.specs.Signatures.{decl_has}
use Rattle.plain_parts.proofs.Lists.{any_mapped}
use Rattle.swift_plain.proofs.signature.decls_have.Goals as goal

pub returns : goal.returns
returns c = c.any_decl_has.ensures ∙ sym (any_mapped (decl_has (view_sought c.args.sought)) view_decl c.args.decls.now)
