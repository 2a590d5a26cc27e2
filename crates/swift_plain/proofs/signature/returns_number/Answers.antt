use Rattle.std.proofs.Common.{◌∙◌, sym}
use Rattle.script_grammar.specs.Tree.{view_decl}
use Rattle.swift_plain.specs.Signatures.{decl_returns}
use Rattle.plain_parts.proofs.Lists.{any_mapped}
use Rattle.swift_plain.proofs.signature.returns_number.Goals as goal

pub returns : goal.returns
returns c = c.any_decl_returns.ensures ∙ sym (any_mapped (decl_returns c.args.actor.now.text.items c.args.name.now.text.items) view_decl c.args.decls.now)
